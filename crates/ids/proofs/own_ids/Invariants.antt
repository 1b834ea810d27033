use Rattle.ids.proofs.FirstSteps.{Counting}
use Rattle.ids.proofs.own_ids.Given as goal

abbrev pub invariant-loop-i : goal.invariant-loop-i
invariant-loop-i l = Counting l.at l.n l.initial.work l.work l.i
