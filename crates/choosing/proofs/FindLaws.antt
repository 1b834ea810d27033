-- A binary search among rising words, and the places it puts. Assumes nothing.
use mathlib.Core.Path.{◌≡◌, sym, ap, ◌∙◌}
use mathlib.Core.List.{List, [], ◌∷◌}
use mathlib.Core.Logic.{⊎_elim}
use Prim.Native.Nat.{ℕ, ◌+◌, ◌≤◌, ◌<◌}
use native.Mathlib.Omega.{arith}
use lib.ListN.{length, get_or, set, take}
use lib.Seq.{get_or-set_same, get_or-set_other, get_or-take, length-take-le}
use Rattle.std.proofs.lemmas.List.{get_or_default}
use Rattle.laws.specs.LentRange.{Only}
use Rattle.laws.proofs.Cases.{lt-or-ge, Tri, tri}
use Rattle.laws.proofs.Cases.Tri.{below, same, above}
use Rattle.laws.proofs.RangeLaws.{only-trans, only_set}
use Rattle.choosing.specs.Lent.{Rising, Within, FoundAt, PlacesPut}

-- equal words stand at one place
pub rising-once : {k : ℕ} {w : List ℕ} → Rising k w → (a b : ℕ) → a < k → b < k → get_or w a 0 ≡ get_or w b 0 → a ≡ b
rising-once {k} {w} r a b p q e = go (tri a b)
  where
    go : Tri a b → a ≡ b
    go (same c) = c
    go (below c) = absurd (omega (arith, r.up a b c q))
    go (above c) = absurd (omega (arith, r.up b a c p))

module _ {k : ℕ} {w : List ℕ} (r : Rising k w) (room : k ≤ length w) where
  word : (i d : ℕ) → i < k → get_or (take k w) i d ≡ get_or w i 0
  word i d h = get_or-take k w i d h ∙ get_or_default w i d 0 (omega arith)

  pub in-order : (i j : ℕ) → i ≤ j → j < length (take k w) → get_or (take k w) i 0 ≤ get_or (take k w) j 0
  in-order i j p q =
      let l : j < k = omega (arith, length-take-le k w room) in
      ⊎_elim
      (λ (h : i < j). omega (arith, word i 0 (omega arith), word j 0 l, r.up i j h l))
      (λ (h : j ≤ i). let e : i ≡ j = omega arith in rw e (omega arith))
      (lt-or-ge i j)

  -- what a search finds is x, and it finds it
  pub found : {x i : ℕ} → (i < length (take k w)) × (get_or (take k w) i 0 ≡ x) → (r : ℕ) → r ≡ i → FoundAt k w x r
  found {x} {i} p r e =
      let h : i < k = omega (arith, length-take-le k w room) in
      rw e (record { in-range = h; is = sym (word i 0 h) ∙ p.1 })

  pub not-missed : {x i : ℕ} → Within k w x → (i ≤ length (take k w)) × ((j : ℕ) → j < i → get_or (take k w) j 0 < x) × ((j : ℕ) → i ≤ j → j < length (take k w) → x < get_or (take k w) j 0) → ⊥
  not-missed {x} {i} a p = ⊎_elim
      (λ (h : a.0 < i). omega (arith, p.1 a.0 h, word a.0 0 a.1, a.2))
      (λ (h : i ≤ a.0). omega (arith, p.2 a.0 h (omega (arith, length-take-le k w room)), word a.0 0 a.1, a.2))
      (lt-or-ge a.0 i)

-- ---- places

-- the first i are put
pub record PlacesSo (k to : ℕ) (w rows old new : List ℕ) (i : ℕ) : Type 0 where
  pub within : i ≤ length rows
  pub only : Only ((0, length rows) ∷ []) old new
  pub is : (j a : ℕ) → j < i → a < k → get_or w a 0 ≡ get_or rows j 0 → get_or new j 0 ≡ get_or w (to + a) 0

module _ (k to : ℕ) (w rows old : List ℕ) where
  pub places-more : Rising k w → length rows ≤ length old → (new : List ℕ) (i f : ℕ) → PlacesSo k to w rows old new i → i < length rows
      → FoundAt k w (get_or rows i 0) f → PlacesSo k to w rows old (set new i (get_or w (to + f) 0)) (i + 1)
  places-more r room new i f s h e =
      let v = get_or w (to + f) 0 in
      record {
        within = omega arith;
        only = only-trans s.only (only_set ((0, length rows) ∷ []) new i v (λ x. omega (arith, x.0.apart (omega arith))));
        is = λ j a p q g. ⊎_elim
            (λ (l : j < i). get_or-set_other new i j v 0 (omega arith) ∙ s.is j a l q g)
            (λ (l : i ≤ j).
            let z : j ≡ i = omega arith in
            let c : a ≡ f = rising-once r a f q e.in-range (g ∙ ap (λ (m : ℕ). get_or rows m 0) z ∙ sym e.is) in
            rw (z, c) (get_or-set_same new i v 0 (omega (arith, s.only.long))))
            (lt-or-ge j i);
      }

  pub places-done : (new : List ℕ) (i : ℕ) → PlacesSo k to w rows old new i → length rows ≤ i → PlacesPut k to w rows old new
  places-done new i s h = record { only = s.only; is = λ j a p q e. s.is j a (omega arith) q e }
