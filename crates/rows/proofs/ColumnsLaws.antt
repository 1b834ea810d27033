-- Laws of a shape's columns: their order, that they are the regions with a width, and how many bytes each has. Assumes nothing.
use mathlib.Core.Path.{◌≡◌, refl, sym, ap, ◌∙◌}
use mathlib.Core.Bool.{true}
use mathlib.Core.List.{List, [], ◌∷◌, ◌++◌}
use mathlib.Core.Logic.{⊎_elim}
use Prim.Native.Nat.{ℕ, zero, suc, ◌+◌, ◌-◌, ◌%◌, ◌≤◌, ◌<◌}
use native.Mathlib.Omega.{arith}
use lib.Dec.{eqb}
use lib.ListN.{length, get_or, length-append, get_or-append}
use lib.Seq.{get_or-append-add}
use borrow.Author.Tests.{lt-ltb, le-ltb, eq-eqb, ne_eqb, eqb-true}
use Rattle.laws.specs.Every.{All, EachTwo}
use Rattle.laws.proofs.EveryLaws.{all-imp, all_append, all-get_or, two-get_or}
use Rattle.laws.proofs.Cases.{Which, which, lt-or-ge, Tri, tri}
use Rattle.laws.proofs.Cases.Which.{holds, fails}
use Rattle.laws.proofs.Cases.Tri.{below, same, above}
use Rattle.shapes.specs.Shape.{Shape}
use Rattle.reader.specs.declared.column.Column.{Column}
use Rattle.reader.specs.declared.column.Column.TheVariants.{At, Missing}
use Rattle.reader.specs.Store.{column_width, are_columns_ok, find, absent}
use Rattle.rows.specs.Columns.{add_if, of_width, columns_of, fours, twoes, word_count, bytes_for_width}
use Rattle.reader.proofs.StoreLaws.{ok-intro, ok-once, find-below, find_at, absent-at}

two-append : {A : Type 0} (R : A → A → Type 0) (l m : List A) → EachTwo R l → EachTwo R m → All (λ x. All (R x) m) l → EachTwo R (l ++ m)
two-append R [] m p q h = q
two-append R (x ∷ l) m p q h = (all_append (R x) l m p.0 h.0, two-append R l m p.1 q h.1)

-- ---- the regions of one width

-- region q is one of the shape, whose first is r, and has width w
pub record In (w r : ℕ) (s : Shape) (q : ℕ) : Type 0 where
  pub from : r ≤ q
  pub to : q < r + length s
  pub width : get_or s (q - r) 0 ≡ w

in-later : (w r v : ℕ) (s : Shape) (q : ℕ) → In w (r + 1) s q → In w r (v ∷ s) q
in-later w r v s q i =
    let e : q - r ≡ suc (q - (r + 1)) = omega (arith, i.from) in
    record { from = omega (arith, i.from); to = omega (arith, i.to); width = rw e i.width }

in-first : (w r v : ℕ) (s : Shape) → v ≡ w → In w r (v ∷ s) r
in-first w r v s h =
    let e : r - r ≡ 0 = omega arith in
    record { from = omega arith; to = omega arith; width = rw e h }

pub of-all : (w r : ℕ) (s : Shape) → All (In w r s) (of_width w r s)
unfolding of_width add_if
of-all w r [] = tt
of-all w r (v ∷ s) = go (which (eqb v w)) (all-imp (in-later w r v s) (of_width w (r + 1) s) (of-all w (r + 1) s))
  where
    go : Which (eqb v w) → All (In w r (v ∷ s)) (of_width w (r + 1) s) → All (In w r (v ∷ s)) (add_if (eqb v w) r (of_width w (r + 1) s))
    go (holds t) h = rw t (in-first w r v s (eqb-true v w t), h)
    go (fails t) h = rw t h

pub of_two : (w r : ℕ) (s : Shape) → EachTwo (λ p q. p < q) (of_width w r s)
unfolding of_width add_if
of_two w r [] = tt
of_two w r (v ∷ s) =
    go (which (eqb v w)) (of_two w (r + 1) s)
    (all-imp (λ q i. omega (arith, i.from)) (of_width w (r + 1) s) (of-all w (r + 1) s))
  where
    go : Which (eqb v w) → EachTwo (λ p q. p < q) (of_width w (r + 1) s) → All (λ q. r < q) (of_width w (r + 1) s)
        → EachTwo (λ p q. p < q) (add_if (eqb v w) r (of_width w (r + 1) s))
    go (holds t) h a = rw t (a, h)
    go (fails t) h a = rw t h

-- each region of that width is there
pub of-has : (w r : ℕ) (s : Shape) (k : ℕ) → k < length s → get_or s k 0 ≡ w → (j : ℕ) × (j < length (of_width w r s)) × (get_or (of_width w r s) j 0 ≡ r + k)
unfolding of_width add_if
of-has w r [] k h e = absurd (omega arith)
of-has w r (v ∷ s) zero h e = rw (eq-eqb v w e) (0, omega arith, omega arith)
of-has w r (v ∷ s) (suc k) h e = go (which (eqb v w)) (of-has w (r + 1) s k (omega arith) e)
  where
    go : Which (eqb v w) → (j : ℕ) × (j < length (of_width w (r + 1) s)) × (get_or (of_width w (r + 1) s) j 0 ≡ r + 1 + k)
        → (j : ℕ) × (j < length (add_if (eqb v w) r (of_width w (r + 1) s))) × (get_or (add_if (eqb v w) r (of_width w (r + 1) s)) j 0 ≡ r + suc k)
    go (holds t) (j, l, g) = rw t (suc j, omega arith, omega arith)
    go (fails t) (j, l, g) = rw t (j, l, omega arith)

-- ---- the columns

-- region p's column stands before region q's: it is wider, or as wide and of a smaller number
pub record Ahead (s : Shape) (p q : ℕ) : Type 0 where
  pub wide : get_or s q 0 ≤ get_or s p 0
  pub first : get_or s p 0 ≡ get_or s q 0 → p < q

-- a region of the shape with one of the three widths
pub record Wide (s : Shape) (w q : ℕ) : Type 0 where
  pub to : q < length s
  pub width : get_or s q 0 ≡ w

module _ (s : Shape) where
  of-wide : (w : ℕ) → All (Wide s w) (of_width w 0 s)
  of-wide w = all-imp
      (λ q i. let e : q - 0 ≡ q = omega arith in record { to = omega (arith, i.to); width = rw e at i.width })
      (of_width w 0 s) (of-all w 0 s)

  within : (w : ℕ) → EachTwo (Ahead s) (of_width w 0 s)
  within w = go (of_width w 0 s) (of-wide w) (of_two w 0 s)
    where
      one : (p : ℕ) → Wide s w p → (l : List ℕ) → All (Wide s w) l → All (λ q. p < q) l → All (Ahead s p) l
      one p i [] h k = tt
      one p i (q ∷ l) h k = (record { wide = omega (arith, i.width, h.0.width); first = λ e. k.0 }, one p i l h.1 k.1)

      go : (l : List ℕ) → All (Wide s w) l → EachTwo (λ p q. p < q) l → EachTwo (Ahead s) l
      go [] h k = tt
      go (p ∷ l) h k = (one p h.0 l h.1 k.0, go l h.1 k.1)

  across : (v w : ℕ) → w < v → (l m : List ℕ) → All (Wide s v) l → All (Wide s w) m → All (λ p. All (Ahead s p) m) l
  across v w h l m a b =
      all-imp (λ p i. all-imp (λ q j. record { wide = omega (arith, i.width, j.width); first = λ e. absurd (omega (arith, i.width, j.width)) }) m b) l a

  -- C1: the wider column is first, and of equal ones that of the smaller index
  pub columns-ordered : EachTwo (Ahead s) (columns_of s)
  unfolding columns_of
  columns-ordered =
      two-append (Ahead s) (of_width 4 0 s) (of_width 2 0 s ++ of_width 1 0 s) (within 4)
      (two-append (Ahead s) (of_width 2 0 s) (of_width 1 0 s) (within 2) (within 1) (across 2 1 (omega arith) (of_width 2 0 s) (of_width 1 0 s) (of-wide 2) (of-wide 1)))
      (both (of_width 4 0 s) (across 4 2 (omega arith) (of_width 4 0 s) (of_width 2 0 s) (of-wide 4) (of-wide 2)) (across 4 1 (omega arith) (of_width 4 0 s) (of_width 1 0 s) (of-wide 4) (of-wide 1)))
    where
      both : (l : List ℕ) → All (λ p. All (Ahead s p) (of_width 2 0 s)) l → All (λ p. All (Ahead s p) (of_width 1 0 s)) l → All (λ p. All (Ahead s p) (of_width 2 0 s ++ of_width 1 0 s)) l
      both [] a b = tt
      both (p ∷ l) a b = (all_append (Ahead s p) (of_width 2 0 s) (of_width 1 0 s) a.0 b.0, both l a.1 b.1)

  -- each is a region of the shape, with a width
  pub columns-in : All (λ q. (q < length s) × (0 < get_or s q 0)) (columns_of s)
  unfolding columns_of
  columns-in =
      all_append (λ q. (q < length s) × (0 < get_or s q 0)) (of_width 4 0 s) (of_width 2 0 s ++ of_width 1 0 s) (some 4 (omega arith))
      (all_append (λ q. (q < length s) × (0 < get_or s q 0)) (of_width 2 0 s) (of_width 1 0 s) (some 2 (omega arith)) (some 1 (omega arith)))
    where
      some : (w : ℕ) → 0 < w → All (λ q. (q < length s) × (0 < get_or s q 0)) (of_width w 0 s)
      some w h = all-imp (λ q i. (i.to, omega (arith, i.width))) (of_width w 0 s) (of-wide w)

  -- none is named twice
  pub columns-ok : are_columns_ok (length s) (columns_of s) ≡ true
  columns-ok = ok-intro (length s) (columns_of s)
      (λ k h. (all-get_or (λ q. (q < length s) × (0 < get_or s q 0)) (columns_of s) k 0 columns-in h).0)
      (λ i j p h e.
      let a = two-get_or (Ahead s) (columns_of s) i j 0 columns-ordered p h in
      omega (arith, a.first (ap (λ (q : ℕ). get_or s q 0) (sym e))))

of-most : (w r : ℕ) (s : Shape) → length (of_width w r s) ≤ length s
unfolding of_width add_if
of-most w r [] = omega arith
of-most w r (v ∷ s) = go (which (eqb v w)) (of-most w (r + 1) s)
  where
    go : Which (eqb v w) → length (of_width w (r + 1) s) ≤ length s → length (add_if (eqb v w) r (of_width w (r + 1) s)) ≤ suc (length s)
    go (holds t) h = rw t (omega arith)
    go (fails t) h = rw t (omega arith)

-- in a list without repeats the place of x is where x stands
pub find-is : (n : ℕ) (l : List ℕ) (x j : ℕ) → are_columns_ok n l ≡ true → j < length l → get_or l j 0 ≡ x → find x 0 l ≡ At j
find-is n l x j ok h e = go (find x 0 l) refl
  where
    go : (c : Column) → find x 0 l ≡ c → c ≡ At j
    go Missing m = absurd (absent-at x 0 l (ap absent m) j h e)
    go (At k) m =
        let z : k - 0 ≡ k = omega arith in
        let f : get_or l k 0 ≡ x = rw z at (find_at x 0 l k m).1 in
        let b : k < length l = omega (arith, find-below x 0 l k m) in
        at k f b (tri k j)
      where
        at : (k : ℕ) → get_or l k 0 ≡ x → k < length l → Tri k j → At k ≡ At j
        at k f b (same q) = ap At q
        at k f b (below q) = absurd (ok-once n l ok k j q h (e ∙ sym f))
        at k f b (above q) = absurd (ok-once n l ok j k q b (f ∙ sym e))

module _ (s : Shape) where
  count-is : length (columns_of s) ≡ fours s + (twoes s + length (of_width 1 0 s))
  unfolding columns_of
  count-is = simp length-append

  four-at : (j : ℕ) → j < fours s → get_or (columns_of s) j 0 ≡ get_or (of_width 4 0 s) j 0
  unfolding columns_of
  four-at j h = get_or-append (of_width 4 0 s) (of_width 2 0 s ++ of_width 1 0 s) 0 j h

  two_at : (j : ℕ) → j < twoes s → get_or (columns_of s) (fours s + j) 0 ≡ get_or (of_width 2 0 s) j 0
  unfolding columns_of
  two_at j h = get_or-append-add (of_width 4 0 s) (of_width 2 0 s ++ of_width 1 0 s) j 0 ∙ get_or-append (of_width 2 0 s) (of_width 1 0 s) 0 j h

  one_at : (j : ℕ) → get_or (columns_of s) (fours s + (twoes s + j)) 0 ≡ get_or (of_width 1 0 s) j 0
  unfolding columns_of
  one_at j = get_or-append-add (of_width 4 0 s) (of_width 2 0 s ++ of_width 1 0 s) (twoes s + j) 0 ∙ get_or-append-add (of_width 2 0 s) (of_width 1 0 s) j 0

  -- the width of column j's region
  abbrev width_at : ℕ → ℕ
  width_at j = get_or s (get_or (columns_of s) j 0) 0

  width_is : (w j : ℕ) → j < length (of_width w 0 s) → get_or s (get_or (of_width w 0 s) j 0) 0 ≡ w
  width_is w j h = (all-get_or (Wide s w) (of_width w 0 s) j 0 (of-wide s w) h).width

  pub width_four : (j : ℕ) → j < fours s → width_at j ≡ 4
  width_four j h = rw (four-at j h) (width_is 4 j h)

  pub width_two : (j : ℕ) → fours s ≤ j → j < fours s + twoes s → width_at j ≡ 2
  width_two j l h =
      let e : fours s + (j - fours s) ≡ j = omega arith in
      let b : j - fours s < twoes s = omega arith in
      let g : get_or (columns_of s) j 0 ≡ get_or (of_width 2 0 s) (j - fours s) 0 = rw e at (two_at (j - fours s) b) in
      rw g (width_is 2 (j - fours s) b)

  pub width_one : (j : ℕ) → fours s + twoes s ≤ j → j < length (columns_of s) → width_at j ≡ 1
  width_one j l h =
      let i = j - (fours s + twoes s) in
      let e : fours s + (twoes s + i) ≡ j = omega arith in
      let b : i < length (of_width 1 0 s) = omega (arith, count-is) in
      let g : get_or (columns_of s) j 0 ≡ get_or (of_width 1 0 s) i 0 = rw e at (one_at i) in
      rw g (width_is 1 i b)

  -- a region with a width has a column
  pub columns-has : (k : ℕ) → k < length s → 0 < get_or s k 0 → get_or s k 0 ≤ 4 → (get_or s k 0 ≡ 3 → ⊥) → (j : ℕ) × (j < length (columns_of s)) × (get_or (columns_of s) j 0 ≡ k)
  columns-has k h p q n = go (tri (get_or s k 0) 2)
    where
      go : Tri (get_or s k 0) 2 → (j : ℕ) × (j < length (columns_of s)) × (get_or (columns_of s) j 0 ≡ k)
      go (above a) =
          let e : get_or s k 0 ≡ 4 = omega arith in
          let o = of-has 4 0 s k h e in
          (o.0, omega (arith, o.1, count-is), four-at o.0 o.1 ∙ o.2 ∙ (let z : 0 + k ≡ k = omega arith in z))
      go (same a) =
          let o = of-has 2 0 s k h a in
          (fours s + o.0, omega (arith, o.1, count-is), two_at o.0 o.1 ∙ o.2 ∙ (let z : 0 + k ≡ k = omega arith in z))
      go (below a) =
          let e : get_or s k 0 ≡ 1 = omega arith in
          let o = of-has 1 0 s k h e in
          (fours s + (twoes s + o.0), omega (arith, o.1, count-is), one_at o.0 ∙ o.2 ∙ (let z : 0 + k ≡ k = omega arith in z))

  -- one with none has none
  pub columns-lack : (k : ℕ) → get_or s k 0 ≡ 0 → find k 0 (columns_of s) ≡ Missing
  columns-lack k e = go (find k 0 (columns_of s)) refl
    where
      go : (c : Column) → find k 0 (columns_of s) ≡ c → c ≡ Missing
      go Missing m = refl
      go (At j) m =
          let z : j - 0 ≡ j = omega arith in
          let f : get_or (columns_of s) j 0 ≡ k = rw z at (find_at k 0 (columns_of s) j m).1 in
          let b : j < length (columns_of s) = omega (arith, find-below k 0 (columns_of s) j m) in
          let i = all-get_or (λ q. (q < length s) × (0 < get_or s q 0)) (columns_of s) j 0 (columns-in s) b in
          absurd (omega (arith, i.1, ap (λ (q : ℕ). get_or s q 0) f))

  module _ (few : length s < 32768) where
    -- with a Four column
    word_wide : 0 < fours s → word_count s ≡ fours s + 32768
    unfolding word_count
    word_wide h = rw (lt-ltb 0 (fours s) h)

    word-narrow : fours s ≤ 0 → word_count s ≡ twoes s
    unfolding word_count
    word-narrow h = rw (le-ltb 0 (fours s) h)

    pub word_below : word_count s < 65536
    word_below = ⊎_elim (λ h. omega (arith, word_wide h, of-most 4 0 s)) (λ h. omega (arith, word-narrow h, of-most 2 0 s)) (lt-or-ge 0 (fours s))

    pub word-full : word_count s % 32768 ≤ length (columns_of s)
    word-full = ⊎_elim (λ h. omega (arith, word_wide h, of-most 4 0 s, count-is)) (λ h. omega (arith, word-narrow h, of-most 2 0 s, count-is)) (lt-or-ge 0 (fours s))

    -- the reader's width of column j is the one it is written in
    pub bytes-are : (j : ℕ) → j < length (columns_of s) → column_width (word_count s) j ≡ bytes_for_width s (width_at j)
    unfolding column_width bytes_for_width
    bytes-are j b = ⊎_elim
        (λ (h : 0 < fours s).
        let w = word_wide h in
        let hi : 32768 ≤ word_count s = omega arith in
        let m : word_count s % 32768 ≡ fours s = omega (arith, of-most 4 0 s) in
        ⊎_elim
        (λ (l : j < fours s). rw (m, le-ltb (word_count s) 32768 hi, lt-ltb 0 (fours s) h, lt-ltb j (fours s) l, width_four j l))
        (λ (l : fours s ≤ j). rw (m, le-ltb (word_count s) 32768 hi, lt-ltb 0 (fours s) h, le-ltb j (fours s) l, ne_eqb (width_at j) 4 (not-four j l b)))
        (lt-or-ge j (fours s)))
        (λ (h : fours s ≤ 0).
        let w = word-narrow h in
        let lo : word_count s < 32768 = omega (arith, of-most 2 0 s) in
        let m : word_count s % 32768 ≡ twoes s = omega (arith, of-most 2 0 s) in
        ⊎_elim
        (λ (l : j < twoes s). rw (m, lt-ltb (word_count s) 32768 lo, le-ltb 0 (fours s) h, lt-ltb j (twoes s) l, width_two j (omega arith) (omega arith)))
        (λ (l : twoes s ≤ j). rw (m, lt-ltb (word_count s) 32768 lo, le-ltb 0 (fours s) h, le-ltb j (twoes s) l, width_one j (omega arith) b))
        (lt-or-ge j (twoes s)))
        (lt-or-ge 0 (fours s))
      where
        not-four : (j : ℕ) → fours s ≤ j → j < length (columns_of s) → width_at j ≡ 4 → ⊥
        not-four j l b e = ⊎_elim (λ h. omega (arith, width_two j l h)) (λ h. omega (arith, width_one j h b)) (lt-or-ge j (fours s + twoes s))
