use Prim.Native.Nat.{◌*◌}
use mathlib.Core.Path.{◌≡◌}
use lib.ListN.{length}
use Rattle.laws.specs.Bytes.{over}
use Rattle.finishing.specs.Lent.{origins_told}
use Rattle.finishing.proofs.finishing.write_origins.Given as goal

abbrev pub invariant-loop-i : goal.invariant-loop-i
invariant-loop-i l = (length l.to ≡ length l.initial.to) × (l.to ≡ over l.initial.to 0 (2 * l.i) (origins_told l.p l.i l.work))
