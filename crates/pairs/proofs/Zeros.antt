-- The pairs made zeros, one after the other. Assumes nothing.
use mathlib.Core.Path.{◌≡◌, refl, sym, ap, subst, ◌∙◌}
use mathlib.Core.List.{List, [], ◌∷◌, ◌++◌}
use Prim.Native.Nat.{ℕ, zero, suc, ◌+◌, ◌≤◌, ◌<◌}
use native.Mathlib.Nat.{not-suc-le-zero, le_of_suc-le-suc}
use native.Mathlib.Numerals.{add-one}
use native.Mathlib.Omega.{arith}
use lib.ListN.{length, set, take, drop, drop_of_length-le}
use lib.Seq.{length-take-le}
use mathlib.Core.List.{append-nil}
use Rattle.pairs.specs.declared.Pair.{Pair}
use Rattle.pairs.specs.LentQueue.{none, cleared}

pub cleared-none : (w : List Pair) → w ≡ cleared 0 w
unfolding cleared
cleared-none w = refl

cleared-suc : (i : ℕ) (w : List Pair) → i < length w → set (cleared i w) i none ≡ cleared (suc i) w
unfolding cleared
cleared-suc i [] l = absurd (not-suc-le-zero l)
cleared-suc zero (x ∷ w) l = refl
cleared-suc (suc i) (x ∷ w) l = ap (λ (t : List Pair). none ∷ t) (cleared-suc i w (le_of_suc-le-suc l))

pub cleared_more : (w z : List Pair) (i : ℕ) → i < length w → z ≡ cleared i w → set z i none ≡ cleared (i + 1) w
cleared_more w z i l e = ap (λ (x : List Pair). set x i none) e ∙ subst (λ (k : ℕ). set (cleared i w) i none ≡ cleared k w) (sym (add-one i)) (cleared-suc i w l)

-- the front by itself, as a part of all
pub cleared_front : (n i : ℕ) (w f : List Pair) → n ≤ length w → i ≡ n → f ≡ cleared i (take n w) → f ++ drop n w ≡ cleared n w
unfolding cleared
cleared_front n i w f h e p =
    let l : length (take n w) ≤ n = omega (arith, length-take-le n w h) in
    rw (p, e, drop_of_length-le (take n w) l, append-nil)
