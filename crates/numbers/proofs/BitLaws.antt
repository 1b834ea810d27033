-- The 32 bits of a value, as the code works them out. Assumes nothing.
use mathlib.Core.Path.{◌≡◌, refl, ap, ◌∙◌}
use Prim.Native.Nat.{◌^◌, ◌<◌}
use lib.IntN.{ℤ, pos, negsuc}
use lib.Signed.{mag}
use mir.Syntax.{w32}
use mir.Val.{to_z, of_z}
use Rattle.laws.specs.Signed.{twos}
use mir.ValLaws.{to_z-of_z}

-- ---- bits

twos-are : (v : ℤ) → mag v < 2 ^ 31 → of_z w32 v ≡ twos 4 v
unfolding twos
twos-are (pos n) f = refl
twos-are (negsuc n) f = refl

-- as the code works them out
pub bits-are : (v : ℤ) → mag v < 2 ^ 31 → of_z w32 (to_z w32 (of_z w32 v)) ≡ twos 4 v
bits-are v f = ap (of_z w32) (to_z-of_z w32 v (record { sfits = f })) ∙ twos-are v f
