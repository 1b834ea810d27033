-- What the stores of a merge leave: places, heirs and a log entry. Assumes nothing.
use mathlib.Core.Path.{◌≡◌, ◌∙◌}
use mathlib.Core.Logic.{◌≢◌}
use mathlib.Core.List.{List, [], ◌∷◌}
use Prim.Native.Nat.{ℕ, ◌+◌, ◌*◌, ◌<◌}
use native.Mathlib.Omega.{arith}
use lib.ListN.{length, get_or, set, length-set}
use lib.Seq.{get_or-set_same, get_or-set_other}
use Rattle.laws.proofs.RangeLaws.{only-trans, only_set, seg-cons, seg-none}
use Rattle.pairs.specs.declared.Pair.{Pair}
use Rattle.slots.specs.declared.tables.MergeTables.{MergeTables}
use Rattle.slots.specs.Lent.{Laid}
use Rattle.merging.specs.LentHeld.{Noted}

-- five stores, at places that differ
module _ (w : List ℕ) (i j k m n v x y z u : ℕ) where
  abbrev s₁ : List ℕ
  s₁ = set w i v

  abbrev s₂ : List ℕ
  s₂ = set s₁ j x

  abbrev s₃ : List ℕ
  s₃ = set s₂ k y

  abbrev s₄ : List ℕ
  s₄ = set s₃ m z

  abbrev s₅ : List ℕ
  s₅ = set s₄ n u

  module _ (li : i < length w) (lj : j < length w) (lk : k < length w) (lm : m < length w) (ln : n < length w)
      (ij : i ≢ j) (ik : i ≢ k) (im : i ≢ m) (i_n : i ≢ n) (jk : j ≢ k) (jm : j ≢ m) (jn : j ≢ n) (km : k ≢ m) (kn : k ≢ n) (mn : m ≢ n) where
    five-4 : get_or s₅ m 0 ≡ z
    five-4 = get_or-set_other s₄ n m u 0 mn ∙ get_or-set_same s₃ m z 0 (simp length-set lm)

module _ (t : MergeTables) (w : List ℕ) (a b k v : ℕ) (h : Laid t (length w)) (p : a < b) (q : b < k) (r : k < 2 * t.groups) where
  abbrev after : List ℕ
  after = set (set (set (set (set w (t.place + a) 0) (t.place + b) 0) (t.place + k) v) (t.into + a) k) (t.into + b) k

  abbrev touched : List (ℕ × ℕ)
  touched = (t.place, 2 * t.groups) ∷ (t.into, 2 * t.groups) ∷ []

-- three stores, one behind the other
pub noted : (t : MergeTables) (w : List ℕ) (j : ℕ) (p : Pair) → Laid t (length w) → j + 1 < t.groups
    → Noted t j p w (set (set (set w (t.log + 3 * j) p.first) (t.log + 3 * j + 1) p.second) (t.log + 3 * j + 2) p.gain)
noted t w j p h l =
    let a = t.log + 3 * j in
    let rs : List (ℕ × ℕ) = (t.log + 3 * j, 3) ∷ [] in
    let w₁ = set w a p.first in
    let w₂ = set w₁ (a + 1) p.second in
    let w₃ = set w₂ (a + 2) p.gain in
    let r : a + 2 < length w = omega (arith, h) in
    let long : length w₃ ≡ length w = simp length-set in
    let e0 : get_or w₃ a 0 ≡ p.first = get_or-set_other w₂ (a + 2) a p.gain 0 (omega arith) ∙ get_or-set_other w₁ (a + 1) a p.second 0 (omega arith) ∙ get_or-set_same w a p.first 0 (omega arith) in
    let e1 : get_or w₃ (a + 1) 0 ≡ p.second = get_or-set_other w₂ (a + 2) (a + 1) p.gain 0 (omega arith) ∙ get_or-set_same w₁ (a + 1) p.second 0 (simp length-set (omega arith)) in
    let e2 : get_or w₃ (a + 2) 0 ≡ p.gain = get_or-set_same w₂ (a + 2) p.gain 0 (simp length-set (omega arith)) in
    let q : a + 1 + 1 ≡ a + 2 = omega arith in
    record {
      only = only-trans (only_set rs w a p.first (λ o. omega (arith, o.0.apart (omega arith))))
          (only-trans (only_set rs w₁ (a + 1) p.second (λ o. omega (arith, o.0.apart (omega arith))))
          (only_set rs w₂ (a + 2) p.gain (λ o. omega (arith, o.0.apart (omega arith)))));
      is = seg-cons a 2 w₃ (omega arith) ∙ rw (e0, seg-cons (a + 1) 1 w₃ (omega arith), e1, q, seg-cons (a + 2) 0 w₃ (omega arith), e2, seg-none (a + 2 + 1) w₃);
    }
