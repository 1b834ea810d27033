use Rattle.job_scan.proofs.WriteLaws.{Regioning}
use Rattle.job_scan.proofs.regions.write_regions.Given as goal

abbrev pub invariant-loop-r : goal.invariant-loop-r
invariant-loop-r l = Regioning l.index l.body l.axes l.regions l.job l.initial.work l.work l.r l.p l.start
