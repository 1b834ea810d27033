-- The first like each region is one. Assumes nothing.
use mathlib.Core.Path.{◌≡◌}
use mathlib.Core.List.{List}
use Prim.Native.Nat.{ℕ, ◌+◌, ◌<◌}
use native.Mathlib.Omega.{arith}
use lib.ListN.{get_or}
use Rattle.matching.specs.declared.Sides.{Sides}
use Rattle.matching.specs.Lent.{total, firsts_of, FirstSide, Matched}

first-once : {store job w : List ℕ} {t : Sides} {x f g : ℕ} → x < total t → FirstSide store job w t x f → FirstSide store job w t x g → f ≡ g
first-once {store} {job} {w} {t} {x} {f} {g} h a b =
    let p = a.least g (omega (arith, b.not-past)) b.same in
    let q = b.least f (omega (arith, a.not-past)) a.same in
    omega arith

-- the other words of scratch are left open
pub matched-once : {store job : List ℕ} {t : Sides} {old u v : List ℕ} → Matched store job t old u → Matched store job t old v
    → (x : ℕ) → x < total t → get_or u (firsts_of t + x) 0 ≡ get_or v (firsts_of t + x) 0
matched-once m n x h = first-once h (m.firsts x h) (n.firsts x h)
