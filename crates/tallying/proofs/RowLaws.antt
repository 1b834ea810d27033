-- Cells of a row by the store's bytes: which are zero, and how many are not. Assumes nothing.
use mathlib.Core.Path.{◌≡◌, refl, sym, ap, ◌∙◌}
use mathlib.Core.Bool.{Bool, true, false}
use mathlib.Core.List.{List, [], ◌∷◌}
use Prim.Native.Nat.{ℕ, zero, suc, ◌+◌, ◌-◌, ◌*◌, ◌^◌, ◌≤◌, ◌<◌}
use native.Mathlib.Nat.{add-zero}
use native.Mathlib.Omega.{arith}
use lib.Dec.{ltb}
use lib.IntN.{pos, negsuc}
use lib.ListN.{length}
use borrow.Author.Tests.{ne_eqb, lt-ltb}
use Rattle.laws.specs.Pick.{pick}
use Rattle.laws.specs.Bytes.{be}
use Rattle.laws.specs.LentRange.{seg}
use Rattle.laws.specs.Signed.{is_zero, signed}
use Rattle.laws.proofs.BytesLaws.{pow-top}
use Rattle.reader.specs.Store.{words, column_start, column_width, word_at, column_count}
use Rattle.reader.proofs.StoreLaws.{words_step}
use Rattle.reader.proofs.ColumnLaws.{at-fits}
use Rattle.stores.specs.Stores.{cell_in}
use Rattle.stores.proofs.PartLaws.{be-seg}
use Rattle.cells.specs.Lent.{Ahead, cell_of, CellsFit, NextCell}
use Rattle.recovering.specs.Recovering.{Row, entries_from}
use Rattle.tallying.specs.LentTally.{entries_in, RowIn}

-- a number of k bytes is zero as a value exactly where it is zero
zero-not : (k x : ℕ) → (x ≡ 0 → ⊥) → is_zero (signed k x) ≡ false
unfolding signed is_zero
zero-not k x d = go (ltb (2 * x) (256 ^ k))
  where
    go : (b : Bool) → is_zero (pick b (pos x) (negsuc (256 ^ k - suc x))) ≡ false
    go true = ne_eqb x 0 d
    go false = refl

zero_is : (k x : ℕ) → x ≡ 0 → is_zero (signed k x) ≡ true
unfolding signed is_zero
zero_is k x e =
    let p : 0 < 256 ^ k = (let q : 256 ^ 0 ≤ 256 ^ k = pow-top k {i = 0} (omega arith) in omega arith) in
    rw (e, lt-ltb (2 * 0) (256 ^ k) (omega arith))

-- what is left of a row's entries from column j on; the region numbers stand at `names`
abbrev pub left_from : List ℕ → (row word n names j : ℕ) → Row
left_from s row word n names j = entries_from word (seg row (column_start word n) s) j (words s (names + 2 * j) (n - j))

-- column j lies in the row, where the row lies in so many bytes
pub cell-in : (long row word n j : ℕ) → row + column_start word n ≤ long → j < n → row + column_start word j + column_width word j ≤ long
cell-in long row word n j inside h = omega (arith, at-fits word j n h)

module _ (s : List ℕ) (row word n names j x : ℕ) (h : j < n) (e : x ≡ be (column_width word j) s (row + column_start word j)) where
  -- its value
  cell-is : cell_in word (seg row (column_start word n) s) j ≡ signed (column_width word j) x
  unfolding cell_in
  cell-is = rw (be-seg (column_width word j) row (column_start word n) s (column_start word j) (at-fits word j n h), ← e)

  pub left-zero : x ≡ 0 → left_from s row word n names j ≡ left_from s row word n names (j + 1)
  unfolding entries_from
  left-zero z = rw (words_step s names n j h, cell-is, zero_is (column_width word j) x z)

  pub left-more : (x ≡ 0 → ⊥) → left_from s row word n names j ≡ (be 2 s (names + 2 * j), signed (column_width word j) x) ∷ left_from s row word n names (j + 1)
  unfolding entries_from
  left-more z = rw (words_step s names n j h, cell-is, zero-not (column_width word j) x z)

pub left-none : (s : List ℕ) (row word n names j : ℕ) → n ≤ j → left_from s row word n names j ≡ []
unfolding entries_from words
left-none s row word n names j h = let z : n - j ≡ 0 = omega arith in rw z

-- columns that are zero have no entries
left-run : (s : List ℕ) (row word n names d j : ℕ) → j + d ≤ n → ((i : ℕ) → j ≤ i → i < j + d → cell_of s row word i ≡ 0)
    → left_from s row word n names j ≡ left_from s row word n names (j + d)
left-run s row word n names zero j h z = rw add-zero
left-run s row word n names (suc d) j h z =
    let e : j + 1 + d ≡ j + suc d = omega arith in
    left-zero s row word n names j (cell_of s row word j) (omega arith) refl (z j (omega arith) (omega arith))
    ∙ (rw e at (left-run s row word n names d (j + 1) (omega arith) (λ i a b. z i (omega arith) (omega arith))))

pub left-skip : (s : List ℕ) (row word n names : ℕ) {j r : ℕ} → NextCell s row word n j r → left_from s row word n names j ≡ left_from s row word n names r
left-skip s row word n names {j} {r} c =
    let e : j + (r - j) ≡ r = omega (arith, c.behind) in
    rw e at (left-run s row word n names (r - j) j (omega (arith, c.within)) (λ i a b. c.zeros i a (omega (arith, c.behind))))

-- column j is there and not zero, or j is their count
pub record AtCell (s : List ℕ) (row word n j : ℕ) : Type 0 where
  pub within : j ≤ n
  pub there : j < n → cell_of s row word j ≡ 0 → ⊥

pub at-cell : {s : List ℕ} {row word n j r : ℕ} → NextCell s row word n j r → AtCell s row word n r
at-cell c = record { within = c.within; there = c.there }

-- ---- counted

-- so many of the first j columns are not zero
pub record Counting (s : List ℕ) (at row word n count j : ℕ) : Type 0 where
  pub cell : AtCell s row word n j
  pub few : count ≤ j
  pub left : count + length (left_from s row word n (at + 6) j) ≡ length (entries_in s at row)

module _ (s : List ℕ) (at row : ℕ) (r : RowIn s at row) (word n : ℕ) (a : word ≡ word_at s at) (b : n ≡ column_count s at) where
  pub row_inside : row + column_start word n ≤ length s
  row_inside = rw (a, b) r.inside

  pub cells_fit : {w : List ℕ} → Ahead s 0 w → word < 65536 → n < 65536 → (j : ℕ) → j ≤ n → CellsFit s w 0 row word n j
  cells_fit f low few j h = record { ahead = f; word_low = low; columns-few = few; inside = row_inside; from = h }

  pub entries-are : left_from s row word n (at + 6) 0 ≡ entries_in s at row
  unfolding entries_in
  entries-are =
      let z : n - 0 ≡ column_count s at = omega arith in
      let y : at + 6 + 2 * 0 ≡ at + 6 = omega arith in
      rw (z, y, a, b)

  -- from the first column that is not zero
  pub entries-from : {f j : ℕ} → NextCell s row word n f j → f ≡ 0 → left_from s row word n (at + 6) j ≡ entries_in s at row
  entries-from c e = sym (left-skip s row word n (at + 6) (rw e at c)) ∙ entries-are

  pub count-start : {f j : ℕ} → NextCell s row word n f j → f ≡ 0 → Counting s at row word n 0 j
  count-start c e = record { cell = at-cell c; few = omega arith; left = omega (arith, ap length (entries-from c e)) }

  pub count-more : {count j next more : ℕ} → Counting s at row word n count j → j < n → NextCell s row word n (j + 1) next → more ≡ count + 1 → Counting s at row word n more next
  count-more {count} {j} {next} {more} c h d m = record {
    cell = at-cell d;
    few = omega (arith, c.few, d.behind);
    left = (let f = ap length (left-more s row word n (at + 6) j (cell_of s row word j) h refl (c.cell.there h)) in let g = ap length (left-skip s row word n (at + 6) d) in omega (arith, c.left));
  }

  pub count-done : (count j : ℕ) → Counting s at row word n count j → n ≤ j → count ≡ length (entries_in s at row)
  count-done count j c h =
      let f = ap length (left-none s row word n (at + 6) j h) in
      omega (arith, c.left)
