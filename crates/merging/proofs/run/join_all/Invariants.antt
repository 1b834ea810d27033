-- What was run so far; a turn weighs pairs, or leaves fewer waiting.
use Prim.Native.Nat.{◌+◌, ◌-◌}
use Rattle.waits.specs.LentWaits.{room}
use Rattle.merging.proofs.RunLaws.{Running}
use Rattle.merging.proofs.run.join_all.Given as goal

abbrev pub invariant-loop-s : goal.invariant-loop-s
invariant-loop-s l = Running l.t l.fn.start.waiting l.fn.start.weighed l.fn.start.merges l.fn.start.size l.s.waiting l.s.weighed l.s.merges l.s.size l.initial.work l.work l.initial.pairs l.pairs

abbrev pub decreases-loop-s : goal.decreases-loop-s
decreases-loop-s l = room l.t.groups - l.s.weighed + l.s.waiting
