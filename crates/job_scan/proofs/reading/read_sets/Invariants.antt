use Rattle.job_scan.proofs.ReadingLaws.{Stands}
use Rattle.job_scan.proofs.reading.read_sets.Given as goal

abbrev pub invariant-loop-i : goal.invariant-loop-i
invariant-loop-i l = Stands l.axes l.mode l.job l.records l.from l.t l.initial.work l.work l.i l.f
