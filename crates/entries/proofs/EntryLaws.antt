-- Entries in work. Assumes nothing.
use mathlib.Core.Path.{◌≡◌, refl, sym, ap, ◌∙◌}
use mathlib.Core.List.{List, [], ◌∷◌, ◌++◌}
use Prim.Native.Nat.{ℕ, zero, suc, ◌+◌, ◌-◌, ◌*◌, ◌≤◌, ◌<◌}
use native.Mathlib.Numerals.{add-one}
use native.Mathlib.Omega.{arith}
use lib.ListN.{length, get_or, set, length-set}
use lib.Seq.{get_or-set_same, get_or-set_other}
use Rattle.laws.specs.LentRange.{Only, Outside}
use Rattle.sets.specs.Set.{Set}
use Rattle.sets.specs.Lent.{entries}

pub entries_none : (a : ℕ) (w : List ℕ) → entries a 0 w ≡ []
unfolding entries
entries_none a w = refl

pub entries-head : (a m : ℕ) (w : List ℕ) → 0 < m → entries a m w ≡ (get_or w a 0, get_or w (a + 1) 0) ∷ entries (a + 2) (m - 1) w
unfolding entries
entries-head a zero w h = absurd (omega arith)
entries-head a (suc m) w h = let e : suc m - 1 ≡ m = omega arith in rw e

pub entries-long : (m a : ℕ) (w : List ℕ) → length (entries a m w) ≡ m
unfolding entries
entries-long zero a w = refl
entries-long (suc m) a w = ap suc (entries-long m (a + 2) w)

-- the same words are the same entries
pub entries-same : (n a b : ℕ) (u w : List ℕ) → ((k : ℕ) → k < 2 * n → get_or u (a + k) 0 ≡ get_or w (b + k) 0) → entries a n u ≡ entries b n w
unfolding entries
entries-same zero a b u w h = refl
entries-same (suc n) a b u w h =
    let i : a + 0 ≡ a = omega arith in
    let j : b + 0 ≡ b = omega arith in
    let x : get_or u a 0 ≡ get_or w b 0 = rw (i, j) at (h 0 (omega arith)) in
    rw (
      x,
      h 1 (omega arith),
      entries-same n (a + 2) (b + 2) u w
          (λ k l. let p : a + 2 + k ≡ a + (k + 2) = omega arith in let q : b + 2 + k ≡ b + (k + 2) = omega arith in rw (p, q) (h (k + 2) (omega arith))),
    )

pub entries-kept : (m a : ℕ) (old new : List ℕ) → ((k : ℕ) → a ≤ k → k < a + 2 * m → get_or new k 0 ≡ get_or old k 0) → entries a m new ≡ entries a m old
entries-kept m a old new h = entries-same m a a new old (λ k l. h (a + k) (omega arith) (omega arith))

pub entries-only : {rs : List (ℕ × ℕ)} {old new : List ℕ} → Only rs old new → (m a : ℕ) → ((k : ℕ) → a ≤ k → k < a + 2 * m → Outside rs k)
    → entries a m new ≡ entries a m old
entries-only {rs} {old} {new} o m a h = entries-kept m a old new (λ k p q. o.kept k (h k p q))

pub entries-append : (m n a : ℕ) (w : List ℕ) → entries a (m + n) w ≡ entries a m w ++ entries (a + 2 * m) n w
unfolding entries
entries-append zero n a w = let e : 0 + n ≡ n = omega arith in let f : a + 2 * 0 ≡ a = omega arith in rw (e, f)
entries-append (suc m) n a w =
    let e : suc m + n ≡ suc (m + n) = omega arith in
    let f : a + 2 + 2 * m ≡ a + 2 * suc m = omega arith in
    rw e (ap (λ (l : Set). (get_or w a 0, get_or w (a + 1) 0) ∷ l) (entries-append m n (a + 2) w ∙ rw f))

pub entries-snoc : (m a : ℕ) (w : List ℕ) → entries a (m + 1) w ≡ entries a m w ++ ((get_or w (a + 2 * m) 0, get_or w (a + 2 * m + 1) 0) ∷ [])
unfolding entries
entries-snoc m a w = entries-append m 1 a w ∙ rw add-one

-- one entry more is written behind m
pub entries-push : (m a : ℕ) (w : List ℕ) (i₁ i₂ x y : ℕ) → i₁ ≡ a + 2 * m → i₂ ≡ a + 2 * m + 1 → i₂ < length w
    → entries a (m + 1) (set (set w i₁ x) i₂ y) ≡ entries a m w ++ ((x, y) ∷ [])
entries-push m a w i₁ i₂ x y e₁ e₂ l =
    let u = set w i₁ x in
    let z = set u i₂ y in
    let front : entries a m z ≡ entries a m w =
    entries-kept m a w z (λ k p q. get_or-set_other u i₂ k y 0 (omega arith) ∙ get_or-set_other w i₁ k x 0 (omega arith)) in
    let first : get_or z (a + 2 * m) 0 ≡ x =
    get_or-set_other u i₂ (a + 2 * m) y 0 (omega arith) ∙ (rw (← e₁) (get_or-set_same w i₁ x 0 (omega arith))) in
    let second : get_or z (a + 2 * m + 1) 0 ≡ y = rw (← e₂) (get_or-set_same u i₂ y 0 (omega (arith, length-set w i₁ x))) in
    entries-snoc m a z ∙ rw (front, first, second)

-- ---- the words of entries

flat : Set → List ℕ
flat [] = []
flat (e ∷ s) = e.0 ∷ e.1 ∷ flat s

flat-is : (n a : ℕ) (w : List ℕ) (k : ℕ) → k < 2 * n → get_or (flat (entries a n w)) k 0 ≡ get_or w (a + k) 0
unfolding entries flat
flat-is zero a w k l = absurd (omega arith)
flat-is (suc n) a w zero l = let i : a + 0 ≡ a = omega arith in rw i
flat-is (suc n) a w (suc zero) l = refl
flat-is (suc n) a w (suc (suc k)) l = let i : a + suc (suc k) ≡ a + 2 + k = omega arith in rw i (flat-is n (a + 2) w k (omega arith))

-- the same entries are the same words
pub entries-words : (n a b : ℕ) (u w : List ℕ) → entries a n u ≡ entries b n w → (k : ℕ) → k < 2 * n → get_or u (a + k) 0 ≡ get_or w (b + k) 0
entries-words n a b u w e k l = sym (flat-is n a u k l) ∙ ap (λ (s : Set). get_or (flat s) k 0) e ∙ flat-is n b w k l
