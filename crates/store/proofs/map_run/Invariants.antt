use mathlib.Core.Path.{◌≡◌}
use Prim.Native.Nat.{◌+◌, ◌-◌}
use Rattle.laws.specs.LentRange.{seg}
use Rattle.store.specs.Placing.{in_run, stored}
use Rattle.store.proofs.map_run.Given as goal

abbrev pub invariant-loop-i : goal.invariant-loop-i
invariant-loop-i l = (stored (in_run l.outer l.i (seg (l.ids + l.i) (l.items - l.i) l.work)) l.map ≡ stored (in_run l.outer 0 (seg l.ids l.items l.work)) l.initial.map)
