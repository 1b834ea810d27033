use Prim.Native.Nat.{◌≤◌}
use mathlib.Core.Path.{◌≡◌}
use lib.ListN.{length, take}
use Rattle.shapes.specs.Order.{order_of_widths}
use Rattle.shapes.proofs.shape.widths_order.Given as goal

abbrev pub invariant-loop-i : goal.invariant-loop-i
invariant-loop-i l = (l.i ≤ length l.a) × (order_of_widths (take l.i l.a) (take l.i l.b) ≡ order_of_widths l.a l.b)

abbrev pub decreases-loop-i : goal.decreases-loop-i
decreases-loop-i l = l.i
