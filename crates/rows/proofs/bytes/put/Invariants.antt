use Prim.Native.Nat.{◌≤◌}
use mathlib.Core.Path.{◌≡◌}
use lib.ListN.{length}
use Rattle.laws.specs.Bytes.{bytes_of, over}
use Rattle.rows.proofs.bytes.put.Given as goal

abbrev pub invariant-loop-i : goal.invariant-loop-i
invariant-loop-i l = (l.i ≤ l.k) × (length l.out ≡ length l.initial.out) × (over l.out l.at l.i (bytes_of l.i l.y) ≡ over l.initial.out l.at l.k (bytes_of l.k l.x))
