use Rattle.slots.proofs.SlotLaws.{Adding}
use Rattle.slots.proofs.groups.size.Given as goal

abbrev pub invariant-loop-i : goal.invariant-loop-i
invariant-loop-i l = Adding l.t l.work l.total l.i
