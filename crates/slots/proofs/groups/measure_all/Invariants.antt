use Rattle.slots.proofs.SlotLaws.{Measuring}
use Rattle.slots.proofs.groups.measure_all.Given as goal

abbrev pub invariant-loop-s : goal.invariant-loop-s
invariant-loop-s l = Measuring l.t l.initial.work l.work l.s
