-- What the clauses of `src/` say of lent words and bytes. Of n words in the list, work has the chosen rows in order from 0 on, from 2n on where
-- the rows of each subtable left begin, and from 3n + 1 on a word for each region. Assumes nothing.
use Rattle.std.specs.Prelude.{◌≡◌, Bool, true, not, List, [], ◌∷◌, ◌++◌, map, ℕ, ◌+◌, ◌-◌, ◌*◌, ◌/◌, ◌%◌, ◌≤◌, ◌<◌, eqb, length, get_or}
use Rattle.std.proofs.Math.Option.{Option, some}
use Rattle.laws.specs.Pick.{pick}
use Rattle.laws.specs.Bag.{sum}
use Rattle.laws.specs.LentRange.{Only, seg}
use Rattle.laws.specs.Bounded.{tabulate, up_to}
use Rattle.laws.specs.Sorting.{keep, rank}
use Rattle.laws.specs.Bytes.{be, bytes_of}
use Rattle.laws.specs.Joining.{join_all}
use Rattle.reader.specs.Store.{list_at, axis_count, region_count, is_header_ok, item_count, word_at, column_count, is_subtable_ok}
use Rattle.rows.specs.Lent.{head_bytes}
use Rattle.stores.specs.Stores.{Table, offset_at, rows_at, row_long, table_at}
use Rattle.stores.specs.Dropping.{named}

-- the first chosen row of the g-th subtable left, and how many it has
abbrev pub start_of : ℕ → List ℕ → ℕ → ℕ
start_of n w g = get_or w (2 * n + g) 0

abbrev pub rows_of : ℕ → List ℕ → ℕ → ℕ
rows_of n w g = start_of n w (g + 1) - start_of n w g

-- where that subtable stands in the store
unfoldable pub table_of : List ℕ → ℕ → List ℕ → ℕ → ℕ
table_of s n w g = offset_at s (get_or w (start_of n w g) 0 / 65536)

-- it is well formed, and its chosen rows are rows of it
pub record TableFit (s : List ℕ) (n : ℕ) (w : List ℕ) (g : ℕ) : Type 0 where
  pub starts : 2 * n + g + 1 < length w
  pub up : start_of n w g < start_of n w (g + 1)
  pub top : start_of n w (g + 1) ≤ n
  pub offset-in : 8 + 4 * (get_or w (start_of n w g) 0 / 65536) + 4 ≤ length s
  pub good : is_subtable_ok s (table_of s n w g) (region_count s) ≡ true
  pub few : rows_of n w g ≤ item_count s (table_of s n w g)
  pub inner : (j : ℕ) → start_of n w g ≤ j → j < start_of n w (g + 1) → get_or w j 0 % 65536 < item_count s (table_of s n w g)

-- all t of them
pub record StoreFit (s : List ℕ) (n : ℕ) (w : List ℕ) (t : ℕ) : Type 0 where
  pub header : is_header_ok s ≡ true
  pub few : t < 65536
  pub most : t ≤ n
  pub room : 3 * n + 1 + region_count s ≤ length w
  pub table : (g : ℕ) → g < t → TableFit s n w g

-- the numbers of one
pub record CutIs (s : List ℕ) (n : ℕ) (w : List ℕ) (g at word columns from rows : ℕ) : Type 0 where
  pub at-is : at ≡ table_of s n w g
  pub word-is : word ≡ word_at s (table_of s n w g)
  pub columns-is : columns ≡ column_count s (table_of s n w g)
  pub from_is : from ≡ start_of n w g
  pub rows_is : rows ≡ rows_of n w g
  pub at_low : at < 4294967296
  pub word_low : word < 65536
  pub columns-low : columns < 65536
  pub rows-low : rows < 65536

-- its bytes
unfoldable pub cut_size : List ℕ → ℕ → List ℕ → ℕ → ℕ
cut_size s n w g = 6 + 2 * column_count s (table_of s n w g) + rows_of n w g * row_long s (table_of s n w g)

-- ---- the regions that are named

-- a region has a mark
abbrev pub marked : ℕ → List ℕ → ℕ → Bool
marked m w r = not (eqb (get_or w (m + r) 0) 0)

-- the regions that n columns name are marked from m on, and all else is as it was
pub record ColumnsMarked (s : List ℕ) (from n m : ℕ) (old new : List ℕ) : Type 0 where
  pub long : length new ≡ length old
  pub some-are : (j : ℕ) → j < n → get_or new (m + be 2 s (from + 2 * j)) 0 ≡ 1
  pub none-else : (k : ℕ) → ((j : ℕ) → j < n → m + be 2 s (from + 2 * j) ≡ k → ⊥) → get_or new k 0 ≡ get_or old k 0

-- of the first g subtables
abbrev pub tables_of : List ℕ → ℕ → List ℕ → ℕ → List (Option Table)
tables_of s n w g = tabulate 0 g (λ h. some (table_at s (table_of s n w h)))

pub record TablesMarked (s : List ℕ) (n t : ℕ) (old new : List ℕ) : Type 0 where
  pub only : Only ((3 * n + 1, region_count s) ∷ []) old new
  pub is : (r : ℕ) → r < region_count s → marked (3 * n + 1) new r ≡ named (tables_of s n old t) r

-- one more than a region's new number where it has a mark, else 0
abbrev pub number_of : ℕ → List ℕ → ℕ → ℕ
number_of m w r = pick (marked m w r) (rank (marked m w) r + 1) 0

pub record NumberedAt (m regions : ℕ) (old new : List ℕ) (k : ℕ) : Type 0 where
  pub only : Only ((m, regions) ∷ []) old new
  pub is : (r : ℕ) → r < regions → get_or new (m + r) 0 ≡ number_of m old r
  pub count : k ≡ rank (marked m old) regions

-- ---- what is written

-- each of n columns names a region that has a number
pub record NamesFit (s : List ℕ) (from n : ℕ) (w : List ℕ) (m : ℕ) : Type 0 where
  pub in-work : (j : ℕ) → j < n → m + be 2 s (from + 2 * j) < length w
  pub numbered : (j : ℕ) → j < n → 0 < get_or w (m + be 2 s (from + 2 * j)) 0

abbrev pub TableNamed : List ℕ → ℕ → List ℕ → ℕ → Type 0
TableNamed s n w g = NamesFit s (table_of s n w g + 6) (column_count s (table_of s n w g)) w (3 * n + 1)

abbrev pub StoreNamed : List ℕ → ℕ → List ℕ → ℕ → Type 0
StoreNamed s n w t = (g : ℕ) → g < t → TableNamed s n w g

unfoldable pub columns_put : List ℕ → ℕ → ℕ → List ℕ → ℕ → List ℕ
columns_put s from n w m = join_all (tabulate 0 n (λ j. bytes_of 2 (get_or w (m + be 2 s (from + 2 * j)) 0 - 1)))

unfoldable pub rows_put : List ℕ → ℕ → ℕ → List ℕ → ℕ → ℕ → List ℕ
rows_put s first long w from count = join_all (tabulate 0 count (λ i. seg (first + get_or w (from + i) 0 % 65536 * long) long s))

unfoldable pub cut_bytes : List ℕ → ℕ → List ℕ → ℕ → List ℕ
cut_bytes s n w g =
    let at = table_of s n w g in
    head_bytes (rows_of n w g) (word_at s at) (column_count s at)
    ++ (columns_put s (at + 6) (column_count s at) w (3 * n + 1)
    ++ rows_put s (rows_at s at) (row_long s at) w (start_of n w g) (rows_of n w g))

unfoldable pub tables_put : List ℕ → ℕ → List ℕ → ℕ → List ℕ
tables_put s n w t = join_all (tabulate 0 t (cut_bytes s n w))

-- the header of a store of t subtables
abbrev pub header_put : ℕ → List ℕ
header_put t = bytes_of 2 1 ++ (bytes_of 4 (8 + 4 * t) ++ bytes_of 2 t)

-- their offsets, the first one's being first
unfoldable pub spots_put : List ℕ → ℕ → List ℕ → ℕ → ℕ → List ℕ
spots_put s n w first t = join_all (tabulate 0 t (λ g. bytes_of 4 (first + sum (cut_size s n w) g)))

-- the coordinates of the marked ones of so many regions
unfoldable pub regions_put : List ℕ → ℕ → ℕ → List ℕ → ℕ → ℕ → List ℕ
regions_put s from long w m regions = join_all (map (λ r. seg (from + r * long) long s) (keep (marked m w) (up_to regions)))

unfoldable pub list_put : List ℕ → List ℕ → ℕ → ℕ → List ℕ
list_put s w m kept = bytes_of 2 (axis_count s) ++ (bytes_of 2 kept ++ regions_put s (list_at s + 4) (6 * axis_count s) w m (region_count s))

-- all of it
unfoldable pub store_put : List ℕ → ℕ → List ℕ → ℕ → ℕ → List ℕ
store_put s n w t kept =
    let list = list_put s w (3 * n + 1) kept in
    header_put t ++ (spots_put s n w (8 + 4 * t + length list) t ++ (list ++ tables_put s n w t))
