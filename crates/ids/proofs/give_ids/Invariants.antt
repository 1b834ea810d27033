use Rattle.ids.proofs.FirstSteps.{Giving}
use Rattle.ids.proofs.give_ids.Given as goal

abbrev pub invariant-loop-k : goal.invariant-loop-k
invariant-loop-k l = Giving l.first l.ids l.n l.initial.work l.work l.next l.k
