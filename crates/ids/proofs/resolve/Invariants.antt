use Rattle.ids.proofs.FirstSteps.{Resolving}
use Rattle.ids.proofs.resolve.Given as goal

abbrev pub invariant-loop-x : goal.invariant-loop-x
invariant-loop-x l = Resolving l.first l.n l.initial.work l.work l.x
