use Rattle.shaping.proofs.CoverSteps.{Covering}
use Rattle.shaping.proofs.covering.join_each.Given as goal

abbrev pub invariant-loop-x : goal.invariant-loop-x
invariant-loop-x l = Covering l.index l.n l.at l.tmp l.regions l.initial.work l.work l.x
