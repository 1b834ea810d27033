-- Numbers below i live in the slots of their groups.
use Rattle.merging.proofs.FinishLaws.{Settling}
use Rattle.merging.proofs.optimizing.place_groups.Given as goal

abbrev pub invariant-loop-i : goal.invariant-loop-i
invariant-loop-i l = Settling l.groups l.place l.order l.initial.work l.work l.i
