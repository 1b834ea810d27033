use lib.ListN.{drop}
use Rattle.rows.proofs.PutLaws.{Putting}
use Rattle.recovering.specs.Recovering.{axes_from}
use Rattle.job_writing.proofs.RegionLaws.{axes_left}
use Rattle.job_writing.proofs.regions.write_axes.Given as goal

abbrev pub invariant-loop-a : goal.invariant-loop-a
invariant-loop-a l = Putting l.at (axes_from l.q 0 l.axes (drop l.from l.s)) l.initial.out l.out l.p (axes_left l.s l.q l.from l.axes l.a)
