-- Laws of the reader: what its tests say, its columns, and signed numbers as an i32 computes them. Assumes nothing.
use mathlib.Core.Path.{◌≡◌, refl, ◌∙◌, ap}
use mathlib.Core.Bool.{Bool, true, false, ◌&&◌}
use mathlib.Core.List.{List, [], ◌∷◌}
use Prim.Native.Nat.{ℕ, zero, suc, ◌+◌, ◌-◌, ◌*◌, ◌^◌, ◌≤◌, ◌<◌}
use native.Mathlib.Nat.{zero-add, add-zero}
use native.Mathlib.Omega.{arith}
use lib.Dec.{ltb, eqb}
use lib.IntN.{pos, negsuc, ◌-ℤ◌}
use lib.ListN.{length, get_or, replicate}
use mir.Syntax.{w32}
use mir.Val.{to_z, of_z, SFits}
use mir.ValLaws.{to_z_pos, to_z-of_z}
use borrow.Author.Tests.{leb-true, eqb-true, eqb-false, ne_eqb, not-true, lt-ltb, ltb-true}
use Rattle.laws.specs.Pick.{pick}
use Rattle.laws.specs.Bytes.{be}
use Rattle.laws.proofs.Cases.{and-true, true-false, Which, which}
use Rattle.laws.proofs.Cases.Which.{holds, fails}
use Rattle.reader.specs.declared.column.Column.TheVariants.{At}
use Rattle.reader.specs.Store.{words, is_header_ok, list_at, axis_count, region_count, find, absent, are_columns_ok, column_start, full_columns, item_count, word_at, column_count, is_subtable_ok}

-- ---- an i32's arithmetic

minus : (y : ℕ) → negsuc 0 -ℤ pos y ≡ negsuc y
minus zero = refl
minus (suc n) = ap (λ (m : ℕ). negsuc (suc m)) (zero-add n)

-- `-1 - y`
neg_is : (y : ℕ) → y < 2 ^ 31 → negsuc 0 -ℤ to_z w32 y ≡ negsuc y
neg_is y h = rw (to_z_pos w32 y h) (minus y)

pub neg-fits : (y : ℕ) → y < 2 ^ 31 → SFits w32 (negsuc 0 -ℤ to_z w32 y)
neg-fits y h = rw (neg_is y h) (record { sfits = h })

pub neg-back : (y : ℕ) → y < 2 ^ 31 → to_z w32 (of_z w32 (negsuc 0 -ℤ to_z w32 y)) ≡ negsuc y
neg-back y h = to_z-of_z w32 _ (neg-fits y h) ∙ neg_is y h

-- ---- what a good header and a good subtable say of the length

pub record HeaderFits (s : List ℕ) : Type 0 where
  pub head : 8 ≤ length s
  pub format : be 2 s 0 ≡ 1
  pub there : list_at s ≡ 0 → ⊥
  pub offsets : 8 + 4 * be 2 s 6 ≤ length s
  pub list : list_at s + 4 ≤ length s
  pub regions : list_at s + 4 + 6 * axis_count s * region_count s ≤ length s

pub header-fits : (s : List ℕ) → is_header_ok s ≡ true → HeaderFits s
unfolding is_header_ok
header-fits s h =
    let a = and-true _ _ h in
    let b = and-true _ _ a.1 in
    let d = and-true _ _ b.1 in
    let e = and-true _ _ d.1 in
    let f = and-true _ _ e.1 in
    record {
      head = leb-true _ _ a.0;
      format = eqb-true _ _ b.0;
      there = eqb-false _ _ (not-true _ d.0);
      offsets = leb-true _ _ e.0;
      list = leb-true _ _ f.0;
      regions = leb-true _ _ f.1;
    }

pub record SubtableFits (s : List ℕ) (at : ℕ) : Type 0 where
  pub head : at + 6 ≤ length s
  pub wide : full_columns (word_at s at) ≤ column_count s at
  pub rows : at + 6 + 2 * column_count s at + item_count s at * column_start (word_at s at) (column_count s at) ≤ length s

pub subtable-fits : (s : List ℕ) (at regions : ℕ) → is_subtable_ok s at regions ≡ true → SubtableFits s at
unfolding is_subtable_ok
subtable-fits s at regions h =
    let a = and-true _ _ h in
    let b = and-true _ _ a.1 in
    let d = and-true _ _ b.1 in
    record { head = leb-true _ _ a.0; wide = leb-true _ _ b.0; rows = leb-true _ _ d.0 }

-- ---- the list of region indexes

-- one step on
pub words_step : (s : List ℕ) (at n j : ℕ) → j < n → words s (at + 2 * j) (n - j) ≡ be 2 s (at + 2 * j) ∷ words s (at + 2 * (j + 1)) (n - (j + 1))
unfolding words
words_step s at n j h =
    let e : n - j ≡ suc (n - (j + 1)) = omega arith in
    let f : at + 2 * j + 2 ≡ at + 2 * (j + 1) = omega arith in
    rw (e, f)

pub words-length : (s : List ℕ) (at n : ℕ) → length (words s at n) ≡ n
unfolding words
words-length s at zero = refl
words-length s at (suc n) = ap suc (words-length s (at + 2) n)

pub words-at : (s : List ℕ) (at n j : ℕ) → j < n → get_or (words s at n) j 0 ≡ be 2 s (at + 2 * j)
unfolding words
words-at s at zero j h = absurd (omega arith)
words-at s at (suc n) zero h = rw add-zero
words-at s at (suc n) (suc j) h = words-at s (at + 2) n j (omega arith) ∙ ap (be 2 s) (omega arith)

-- a column that is found is one of the list
pub find-below : (x i : ℕ) (ys : List ℕ) (j : ℕ) → find x i ys ≡ At j → j < i + length ys
unfolding find
find-below x i [] j h = let z : ◌≡◌ {A = ℕ} 0 1 = cc in absurd (omega arith)
find-below x i (y ∷ ys) j h = go (eqb y x) (find-below x (i + 1) ys j) h
  where
    go : (t : Bool) → (find x (i + 1) ys ≡ At j → j < i + 1 + length ys) → pick t (At i) (find x (i + 1) ys) ≡ At j → j < i + suc (length ys)
    go true r h = let e : i ≡ j = cc in omega arith
    go false r h = omega (arith, r h)

-- and x stands there
pub find_at : (x i : ℕ) (ys : List ℕ) (j : ℕ) → find x i ys ≡ At j → (i ≤ j) × (get_or ys (j - i) 0 ≡ x)
unfolding find
find_at x i [] j h = let z : ◌≡◌ {A = ℕ} 0 1 = cc in (absurd (omega arith), absurd (omega arith))
find_at x i (y ∷ ys) j h = go (which (eqb y x)) (find_at x (i + 1) ys j)
  where
    go : Which (eqb y x) → (find x (i + 1) ys ≡ At j → (i + 1 ≤ j) × (get_or ys (j - (i + 1)) 0 ≡ x)) → (i ≤ j) × (get_or (y ∷ ys) (j - i) 0 ≡ x)
    go (holds t) r =
        let e : i ≡ j = (let g : At i ≡ At j = (rw t at h) in cc) in
        let z : j - i ≡ 0 = omega arith in
        (omega arith, rw z (eqb-true y x t))
    go (fails t) r =
        let g = r (rw t at h) in
        let z : j - i ≡ suc (j - (i + 1)) = omega (arith, g.0) in
        (omega (arith, g.0), rw z g.1)

-- what is missing stands nowhere
pub absent-at : (x i : ℕ) (ys : List ℕ) → absent (find x i ys) ≡ true → (k : ℕ) → k < length ys → get_or ys k 0 ≡ x → ⊥
unfolding find
absent-at x i [] h k l e = omega arith
absent-at x i (y ∷ ys) h k l e = go (which (eqb y x)) (absent-at x (i + 1) ys) k l e
  where
    go : Which (eqb y x) → (absent (find x (i + 1) ys) ≡ true → (k : ℕ) → k < length ys → get_or ys k 0 ≡ x → ⊥)
        → (k : ℕ) → k < length (y ∷ ys) → get_or (y ∷ ys) k 0 ≡ x → ⊥
    go (holds t) r k l e = true-false h (rw t)
    go (fails t) r zero l e = eqb-false y x t e
    go (fails t) r (suc k) l e = r (rw t at h) k (omega arith) e

pub absent-intro : (x i : ℕ) (ys : List ℕ) → ((k : ℕ) → k < length ys → get_or ys k 0 ≡ x → ⊥) → absent (find x i ys) ≡ true
unfolding find
absent-intro x i [] h = refl
absent-intro x i (y ∷ ys) h = rw (ne_eqb y x (h 0 (omega arith))) (absent-intro x (i + 1) ys (λ k l. h (suc k) (omega arith)))

-- ---- no region index is too large or named twice

-- the three tests of one index
ok-head : (r x : ℕ) (l : List ℕ) → are_columns_ok r (x ∷ l) ≡ true → (x < r) × (absent (find x 0 l) ≡ true) × (are_columns_ok r l ≡ true)
unfolding are_columns_ok
ok-head r x l h =
    let a = and-true (ltb x r) (absent (find x 0 l) && are_columns_ok r l) h in
    let b = and-true (absent (find x 0 l)) (are_columns_ok r l) a.1 in
    (ltb-true x r a.0, b.0, b.1)

pub ok-below : (r : ℕ) (l : List ℕ) → are_columns_ok r l ≡ true → (k : ℕ) → k < length l → get_or l k 0 < r
ok-below r [] h k p = absurd (omega arith)
ok-below r (x ∷ l) h zero p = (ok-head r x l h).0
ok-below r (x ∷ l) h (suc k) p = ok-below r l (ok-head r x l h).2 k (omega arith)

pub ok-once : (r : ℕ) (l : List ℕ) → are_columns_ok r l ≡ true → (i j : ℕ) → i < j → j < length l → get_or l j 0 ≡ get_or l i 0 → ⊥
ok-once r [] h i j p q e = omega arith
ok-once r (x ∷ l) h i zero p q e = omega arith
ok-once r (x ∷ l) h zero (suc j) p q e = absent-at x 0 l (ok-head r x l h).1 j (omega arith) e
ok-once r (x ∷ l) h (suc i) (suc j) p q e = ok-once r l (ok-head r x l h).2 i j (omega arith) (omega arith) e

pub ok-intro : (r : ℕ) (l : List ℕ) → ((k : ℕ) → k < length l → get_or l k 0 < r)
    → ((i j : ℕ) → i < j → j < length l → get_or l j 0 ≡ get_or l i 0 → ⊥) → are_columns_ok r l ≡ true
unfolding are_columns_ok
ok-intro r [] f g = refl
ok-intro r (x ∷ l) f g =
    rw (
      lt-ltb x r (f 0 (omega arith)),
      absent-intro x 0 l (λ k h. g 0 (suc k) (omega arith) (omega arith)),
      ok-intro r l (λ k h. f (suc k) (omega arith)) (λ i j p q. g (suc i) (suc j) (omega arith) (omega arith)),
    )

-- words of zeros
pub zeros-at : (n v : ℕ) → get_or {A = ℕ} (replicate n 0) v 0 ≡ 0
zeros-at zero v = refl
zeros-at (suc n) zero = refl
zeros-at (suc n) (suc v) = zeros-at n v
