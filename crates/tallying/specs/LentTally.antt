-- What the clauses cite: rows as they lie in a store's bytes, and what is counted of them. Assumes nothing.
use Rattle.std.specs.Prelude.{◌≡◌, List, [], ◌∷◌, ℕ, ◌+◌, ◌*◌, ◌≤◌, length}
use Rattle.std.proofs.Math.Option.{Option}
use Rattle.laws.specs.Bag.{weigh}
use Rattle.laws.specs.Bounded.{tabulate}
use Rattle.laws.specs.LentRange.{seg}
use Rattle.limits.specs.Limits.{most_records}
use Rattle.reader.specs.Store.{item_count, word_at, column_count, regions_at}
use Rattle.stores.specs.Stores.{Table, Parsed, rows_at, row_long}
use Rattle.stores.specs.Dropping.{row_count}
use Rattle.recovering.specs.Recovering.{Row, entries_from, rows_of, set_records, records_of}

-- the entries of the row that begins at `row`, of the subtable at `at`; and of all its rows
unfoldable pub entries_in : List ℕ → ℕ → ℕ → Row
entries_in s at row = entries_from (word_at s at) (seg row (row_long s at) s) 0 (regions_at s at)

unfoldable pub rows_in : List ℕ → ℕ → List Row
rows_in s at = tabulate 0 (item_count s at) (λ i. entries_in s at (rows_at s at + i * row_long s at))

-- a subtable's head and a row lie in the store
pub record RowIn (s : List ℕ) (at row : ℕ) : Type 0 where
  pub head : at + 6 + 2 * column_count s at ≤ length s
  pub inside : row + row_long s at ≤ length s

-- a whole subtable does
pub record TableIn (s : List ℕ) (at : ℕ) : Type 0 where
  pub inside : rows_at s at + item_count s at * row_long s at ≤ length s

-- where it is not null
pub record SlotIn (s : List ℕ) (at : ℕ) : Type 0 where
  pub there : (at ≡ 0 → ⊥) → TableIn s at

-- With the rows of one subtable more: never more than there are, and exact up to the limit.
pub record Added (slot : Option Table) (records sets records' sets' : ℕ) : Type 0 where
  pub most : records' ≤ records + weigh set_records (rows_of (slot ∷ []))
  pub exact : records' ≤ most_records → records' ≡ records + weigh set_records (rows_of (slot ∷ []))
  pub sets-are : sets' ≡ sets + row_count slot
  pub fewer : sets' ≤ records'

-- records and sets of a store's job: above the limit where it takes more, and else exact
pub record Tallied (p : Parsed) (records sets : ℕ) : Type 0 where
  pub most : records ≤ records_of p
  pub exact : records ≤ most_records → (records_of p ≡ records) × (weigh row_count p.tables ≡ sets)
