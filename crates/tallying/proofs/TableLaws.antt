-- The rows of a subtable, counted one after the other. Assumes nothing.
use mathlib.Core.Path.{◌≡◌, refl, ap, ◌∙◌}
use mathlib.Core.List.{List, [], ◌∷◌, map}
use Prim.Native.Nat.{ℕ, suc, ◌+◌, ◌-◌, ◌*◌, ◌≤◌, ◌<◌}
use native.Mathlib.Omega.{arith}
use lib.ListN.{length}
use Rattle.laws.specs.Bag.{weigh}
use Rattle.laws.specs.Bounded.{tabulate}
use Rattle.laws.proofs.Products.{row_fits, row_next}
use Rattle.laws.proofs.BoundedLaws.{map-tabulate}
use Rattle.reader.specs.Store.{column_start, word_at, column_count, item_count}
use Rattle.stores.specs.Stores.{rows_at, row_long, parts, table_at}
use Rattle.recovering.specs.Recovering.{Row, entries_of}
use Rattle.tallying.specs.LentTally.{entries_in, rows_in, RowIn, TableIn}

-- the rows by the subtable as a value
pub rows_are : (s : List ℕ) (at : ℕ) → map (entries_of (table_at s at)) (table_at s at).rows ≡ rows_in s at
unfolding table_at parts rows_in entries_in
rows_are s at = map-tabulate (entries_of (table_at s at)) 0 (item_count s at) (λ i. Rattle.laws.specs.LentRange.seg (rows_at s at + i * row_long s at) (row_long s at) s)

-- those from row i on
abbrev pub rows_from : List ℕ → (at n i : ℕ) → List Row
rows_from s at n i = tabulate i (n - i) (λ i. entries_in s at (rows_at s at + i * row_long s at))

pub rows_step : (s : List ℕ) (at n i row : ℕ) → i < n → row ≡ rows_at s at + i * row_long s at → rows_from s at n i ≡ entries_in s at row ∷ rows_from s at n (i + 1)
unfolding tabulate
rows_step s at n i row h e =
    let z : n - i ≡ suc (n - (i + 1)) = omega arith in
    let y : suc i ≡ i + 1 = omega arith in
    rw (z, e, y)

pub rows_end : (s : List ℕ) (at n i : ℕ) → n ≤ i → rows_from s at n i ≡ []
unfolding tabulate
rows_end s at n i h = let z : n - i ≡ 0 = omega arith in rw z

pub rows_all : (s : List ℕ) (at n : ℕ) → n ≡ item_count s at → rows_from s at n 0 ≡ rows_in s at
unfolding rows_in
rows_all s at n e = let z : n - 0 ≡ item_count s at = omega arith in rw z

-- ---- on the way

pub record Rowing (s : List ℕ) (at items long : ℕ) (row i : ℕ) : Type 0 where
  pub within : i ≤ items
  pub row_is : row ≡ rows_at s at + i * row_long s at

module _ (s : List ℕ) (at items word n long : ℕ) (t : TableIn s at) (a : items ≡ item_count s at) (b : word ≡ word_at s at) (c : n ≡ column_count s at) (d : long ≡ column_start word n) where
  long-is : long ≡ row_long s at
  long-is = d ∙ rw (b, c)

  pub rowing_start : Rowing s at items long (at + 6 + 2 * n) 0
  rowing_start = record { within = omega arith; row_is = rw c (omega arith) }

  module _ (row i : ℕ) (r : Rowing s at items long row i) (h : i < items) where
    pub row_in : RowIn s at row
    row_in =
        let f = row_fits (row_long s at) (item_count s at) i (omega arith) in
        record { head = omega (arith, t.inside); inside = rw r.row_is (omega (arith, t.inside)) }

    pub row_room : row + long ≤ length s
    row_room = rw long-is row_in.inside

    pub rowing_more : Rowing s at items long (row + long) (i + 1)
    rowing_more = record { within = omega arith; row_is = rw (r.row_is, long-is, row_next i (row_long s at)) (omega arith) }

-- counted so far
pub record Summing (s : List ℕ) (at items long : ℕ) (row count i : ℕ) : Type 0 where
  pub rowing : Rowing s at items long row i
  pub few : count ≤ i * 65536
  pub left : count + weigh length (rows_from s at items i) ≡ weigh length (rows_in s at)

module _ (s : List ℕ) (at items word n long : ℕ) (t : TableIn s at) (a : items ≡ item_count s at) (b : word ≡ word_at s at) (c : n ≡ column_count s at) (d : long ≡ column_start word n) where
  pub sum-start : Summing s at items long (at + 6 + 2 * n) 0 0
  sum-start = record {
    rowing = rowing_start s at items word n long t a b c d;
    few = omega arith;
    left = let e = ap (weigh length) (rows_all s at items a) in omega arith;
  }

  module _ (row count i : ℕ) (r : Summing s at items long row count i) (h : i < items) where
    pub sum_more : (v : ℕ) → v ≡ length (entries_in s at row) → v < 65536 → Summing s at items long (row + long) (count + v) (i + 1)
    sum_more v e l =
        let f : weigh length (rows_from s at items i) ≡ length (entries_in s at row) + weigh length (rows_from s at items (i + 1)) = ap (weigh length) (rows_step s at items i row h r.rowing.row_is) ∙ (unfold weigh in refl) in
        record {
          rowing = rowing_more s at items word n long t a b c d row i r.rowing h;
          few = omega (arith, r.few, row_next i 65536);
          left = omega (arith, r.left);
        }

  pub sum_done : (row count i : ℕ) → Summing s at items long row count i → items ≤ i → count ≡ weigh length (rows_in s at)
  sum_done row count i r h =
      let f : weigh length (rows_from s at items i) ≡ 0 = ap (weigh length) (rows_end s at items i h) ∙ (unfold weigh in refl) in
      omega (arith, r.left)
