-- A row is written in at most twice its modelled cost, and has no more columns than that. Assumes nothing.
use mathlib.Core.Path.{◌≡◌}
use mathlib.Core.Bool.{Bool, true, false}
use mathlib.Core.List.{List, [], ◌∷◌, ◌++◌}
use mathlib.Core.Logic.{⊎_elim}
use Prim.Native.Nat.{ℕ, ◌+◌, ◌-◌, ◌*◌, ◌%◌, ◌≤◌, ◌<◌}
use native.Mathlib.Omega.{arith}
use lib.Dec.{eqb}
use lib.ListN.{length, length-append}
use borrow.Author.Tests.{eq-eqb, ne_eqb, lt-ltb, le-ltb}
use Rattle.laws.specs.Pick.{one_if}
use Rattle.laws.proofs.Cases.{lt-or-ge, same_or_not}
use Rattle.shapes.specs.Shape.{Shape, cost_of_row, columns}
use Rattle.shapes.specs.Lent.{column_of}
use Rattle.shapes.proofs.ShapeLaws.{columns-cons, columns-most}
use Rattle.shapes.proofs.LentLaws.{column-some}
use Rattle.reader.specs.Store.{column_start}
use Rattle.rows.specs.Columns.{add_if, of_width, columns_of, fours, twoes, word_count}
use Rattle.store.specs.Placing.{row_bytes}

-- ---- columns by their width

add-long : (b : Bool) (r : ℕ) (l : List ℕ) → length (add_if b r l) ≡ one_if b + length l
unfolding add_if
add-long true r l = omega arith
add-long false r l = omega arith

-- a column's width, and that it is one
width-cost : (v : ℕ) → 4 * one_if (eqb v 4) + 2 * one_if (eqb v 2) + one_if (eqb v 1) ≤ v
width-cost v = ⊎_elim
    (λ (e : v ≡ 4). rw (eq-eqb v 4 e, ne_eqb v 2 (omega arith), ne_eqb v 1 (omega arith)) (omega arith))
    (λ a. ⊎_elim
    (λ (e : v ≡ 2). rw (ne_eqb v 4 (omega arith), eq-eqb v 2 e, ne_eqb v 1 (omega arith)) (omega arith))
    (λ b. ⊎_elim
    (λ (e : v ≡ 1). rw (ne_eqb v 4 (omega arith), ne_eqb v 2 (omega arith), eq-eqb v 1 e) (omega arith))
    (λ c. rw (ne_eqb v 4 a, ne_eqb v 2 b, ne_eqb v 1 c) (omega arith))
    (same_or_not v 1))
    (same_or_not v 2))
    (same_or_not v 4)

width_one : (v : ℕ) → one_if (eqb v 4) + one_if (eqb v 2) + one_if (eqb v 1) ≤ column_of v
width_one v = ⊎_elim
    (λ (e : v ≡ 4). rw (eq-eqb v 4 e, ne_eqb v 2 (omega arith), ne_eqb v 1 (omega arith)) (omega (arith, column-some v (omega arith))))
    (λ a. ⊎_elim
    (λ (e : v ≡ 2). rw (ne_eqb v 4 (omega arith), eq-eqb v 2 e, ne_eqb v 1 (omega arith)) (omega (arith, column-some v (omega arith))))
    (λ b. ⊎_elim
    (λ (e : v ≡ 1). rw (ne_eqb v 4 (omega arith), ne_eqb v 2 (omega arith), eq-eqb v 1 e) (omega (arith, column-some v (omega arith))))
    (λ c. rw (ne_eqb v 4 a, ne_eqb v 2 b, ne_eqb v 1 c) (omega arith))
    (same_or_not v 1))
    (same_or_not v 2))
    (same_or_not v 4)

widths-cost : (r : ℕ) (s : Shape) → 4 * length (of_width 4 r s) + 2 * length (of_width 2 r s) + length (of_width 1 r s) ≤ cost_of_row s
unfolding of_width cost_of_row
widths-cost r [] = omega arith
widths-cost r (v ∷ s) = omega (
  arith,
  add-long (eqb v 4) r (of_width 4 (r + 1) s),
  add-long (eqb v 2) r (of_width 2 (r + 1) s),
  add-long (eqb v 1) r (of_width 1 (r + 1) s),
  width-cost v,
  widths-cost (r + 1) s,
)

widths-one : (r : ℕ) (s : Shape) → length (of_width 4 r s) + length (of_width 2 r s) + length (of_width 1 r s) ≤ columns s
unfolding of_width
widths-one r [] = omega arith
widths-one r (v ∷ s) = omega (
  arith,
  add-long (eqb v 4) r (of_width 4 (r + 1) s),
  add-long (eqb v 2) r (of_width 2 (r + 1) s),
  add-long (eqb v 1) r (of_width 1 (r + 1) s),
  width_one v,
  columns-cons v s,
  widths-one (r + 1) s,
)

columns-long : (s : Shape) → length (columns_of s) ≡ fours s + (twoes s + length (of_width 1 0 s))
unfolding columns_of
columns-long s = omega (arith, length-append (of_width 4 0 s) (of_width 2 0 s ++ of_width 1 0 s), length-append (of_width 2 0 s) (of_width 1 0 s))

pub columns-few : (s : Shape) → length (columns_of s) ≤ columns s
columns-few s = omega (arith, columns-long s, widths-one 0 s)

pub columns-cost : (s : Shape) → length (columns_of s) ≤ cost_of_row s
columns-cost s = omega (arith, columns-long s, widths-cost 0 s)

-- ---- a row's bytes by its word count

row_plain : (w j : ℕ) → w < 32768 → w ≤ j → column_start w j ≡ 2 * w + (j - w)
unfolding column_start
row_plain w j h l =
    let m : w % 32768 ≡ w = omega arith in
    rw (lt-ltb w 32768 h, m, le-ltb j w l) (omega arith)

row-long : (w j : ℕ) → w < 32768 → w ≤ j → column_start (w + 32768) j ≡ 4 * w + 2 * (j - w)
unfolding column_start
row-long w j h l =
    let m : (w + 32768) % 32768 ≡ w = omega arith in
    rw (le-ltb (w + 32768) 32768 (omega arith), m, le-ltb j w l)

pub row-twice : (s : Shape) → length s < 32768 → row_bytes s ≤ 2 * cost_of_row s
unfolding word_count
row-twice s short =
    let long = columns-long s in
    let cost = widths-cost 0 s in
    let one = widths-one 0 s in
    let most = columns-most s in
    ⊎_elim
    (λ (h : 0 < fours s). rw (lt-ltb 0 (fours s) h) (omega (arith, row-long (fours s) (length (columns_of s)) (omega arith) (omega arith))))
    (λ h. rw (le-ltb 0 (fours s) h) (omega (arith, row_plain (twoes s) (length (columns_of s)) (omega arith) (omega arith))))
    (lt-or-ge 0 (fours s))
