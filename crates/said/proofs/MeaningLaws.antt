-- What the definitions mean: regions that have one first are those of equal coordinates (RULES S1). Assumes nothing.
use mathlib.Core.Path.{◌≡◌, refl, sym, ap, ap₂, ◌∙◌}
use mathlib.Core.Bool.{true}
use mathlib.Core.List.{List, [], ◌∷◌}
use Prim.Native.Nat.{ℕ, suc, ◌<◌}
use native.Mathlib.Omega.{arith}
use lib.ListN.{length, get_or}
use lib.Dec.{eqb}
use borrow.Author.Tests.{eqb-true}
use Rattle.laws.proofs.Cases.{Which, which, and-true}
use Rattle.laws.proofs.Cases.Which.{holds, fails}
use Rattle.said.specs.Sets.{Region, same_region, like, first_like}
use Rattle.said.proofs.RegionLaws.{like-below}

same_true : (a b : Region) → same_region a b ≡ true → a ≡ b
unfolding same_region
same_true [] [] h = refl
same_true [] (y ∷ b) h = let z : ◌≡◌ {A = ℕ} 0 1 = cc in absurd (omega arith)
same_true (x ∷ a) [] h = let z : ◌≡◌ {A = ℕ} 0 1 = cc in absurd (omega arith)
same_true (x ∷ a) (y ∷ b) h =
    let p = and-true (eqb x y) (same_region a b) h in
    ap₂ ◌∷◌ (eqb-true x y p.0) (same_true a b p.1)

pub like-here : (c : Region) (l : List Region) → like c l < length l → c ≡ get_or l (like c l) []
unfolding like
like-here c [] h = absurd (omega arith)
like-here c (d ∷ l) h = go (λ t. like-here c l t) (which (same_region c d)) h
  where
    go : (like c l < length l → c ≡ get_or l (like c l) []) → Which (same_region c d) → like c (d ∷ l) < suc (length l) → c ≡ get_or (d ∷ l) (like c (d ∷ l)) []
    go rec (holds e) h = rw e (same_true c d e)
    go rec (fails e) h = rw e (rec (let k = rw e at h in omega arith))

pub first-equal : (l : List Region) (r q : ℕ) → r < length l → q < length l → first_like l r ≡ first_like l q → get_or l r [] ≡ get_or l q []
unfolding first_like
first-equal l r q a b e =
    like-here (get_or l r []) l (like-below l r a) ∙ ap (λ (k : ℕ). get_or l k []) e ∙ sym (like-here (get_or l q []) l (like-below l q b))

pub equal-first : (l : List Region) (r q : ℕ) → get_or l r [] ≡ get_or l q [] → first_like l r ≡ first_like l q
unfolding first_like
equal-first l r q e = ap (λ (c : Region). like c l) e
