use Rattle.matching.proofs.SideLaws.{Siding}
use Rattle.matching.proofs.write_sides.Given as goal

abbrev pub invariant-loop-x : goal.invariant-loop-x
invariant-loop-x l = Siding l.store l.job l.t l.initial.work l.work l.x l.start
