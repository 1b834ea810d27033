-- What the clauses of `src/` say of lent words and bytes: one subtable. Assumes nothing.
use Rattle.std.specs.Prelude.{◌≡◌, true, List, [], ◌∷◌, ◌++◌, map, ℕ, zero, suc, ◌+◌, ◌*◌, ◌≤◌, ◌<◌, length, get_or, take, drop}
use Rattle.laws.specs.Bytes.{bytes_of, over}
use Rattle.laws.specs.LentRange.{Only, seg}
use Rattle.laws.specs.Signed.{twos}
use Rattle.reader.specs.declared.column.Column.{Column}
use Rattle.reader.specs.declared.column.Column.TheVariants.{At, Missing}
use Rattle.reader.specs.Store.{column_width, are_columns_ok, find}
use Rattle.rows.specs.Columns.{columns_of, word_count}
use Rattle.rows.specs.Row.{Set, value_in}
use Rattle.laws.specs.Bounded.{tabulate}
use Rattle.laws.specs.Joining.{join_all}
use Rattle.shapes.specs.Group.{max_items}
use Rattle.rows.specs.Subtable.{run_count_for}

-- n entries that stand in w from index a on, two words each
unfoldable pub entries_at : ℕ → ℕ → List ℕ → Set
entries_at a zero w = []
entries_at a (suc n) w = (get_or w a 0, get_or w (a + 1) 0) ∷ entries_at (a + 2) n w

-- the n words from column j on, each at its column's width
unfoldable pub row_bytes : ℕ → ℕ → List ℕ → List ℕ
row_bytes word j [] = []
row_bytes word j (v ∷ vs) = bytes_of (column_width word j) v ++ row_bytes word (j + 1) vs

-- the two's complement word of each column
abbrev pub cell_words : Set → List ℕ → List ℕ
cell_words set cols = map (λ r. twos 4 (value_in set r)) cols

-- 0 for no column, else one more than its number
unfoldable pub place_no : Column → ℕ
place_no (At j) = suc j
place_no Missing = 0

-- the table says the column of each region
pub record Placed (cols places : List ℕ) : Type 0 where
  pub ok : are_columns_ok (length places) cols ≡ true
  pub at : (r : ℕ) → r < length places → get_or places r 0 ≡ place_no (find r 0 cols)

-- bs was put over the words from at on, and ends at r
pub record Put (at : ℕ) (bs old new : List ℕ) (r : ℕ) : Type 0 where
  pub end : r ≡ at + length bs
  pub is : new ≡ over old at (length bs) bs

-- the columns of a shape that stands in the words were put from cols on, and the numbers are its word count and how many there are
pub record FormedIn (shape regions cols : ℕ) (old new : List ℕ) (word count : ℕ) : Type 0 where
  pub word-is : word ≡ word_count (seg shape regions old)
  pub count-is : count ≡ length (columns_of (seg shape regions old))
  pub put : Put cols (columns_of (seg shape regions old)) old new (cols + count)

-- the table of n columns that stand in the words
pub record PlacedIn (cols n places regions : ℕ) (old new : List ℕ) : Type 0 where
  pub only : Only ((places, regions) ∷ []) old new
  pub placed : Placed (seg cols n old) (seg places regions new)

-- the set of id x: an index of two words a set says where its entries start and how many there are
unfoldable pub set_at : ℕ → List ℕ → ℕ → Set
set_at index w x = entries_at (get_or w (index + 2 * x) 0) (get_or w (index + 2 * x + 1) 0) w

-- that set lies in w
pub record Stored (index : ℕ) (w : List ℕ) (x : ℕ) : Type 0 where
  pub row : index + 2 * x + 2 ≤ length w
  pub body : get_or w (index + 2 * x) 0 + 2 * get_or w (index + 2 * x + 1) 0 ≤ length w

-- a row for each of the ids
unfoldable pub rows_bytes : ℕ → List ℕ → (ℕ → Set) → List ℕ → List ℕ
rows_bytes word cols set [] = []
rows_bytes word cols set (x ∷ xs) = row_bytes word 0 (cell_words (set x) cols) ++ rows_bytes word cols set xs

-- the new numbers of the regions cols, two bytes each
unfoldable pub index_bytes : (ℕ → ℕ) → List ℕ → List ℕ
index_bytes number [] = []
index_bytes number (r ∷ rs) = bytes_of 2 (number r) ++ index_bytes number rs

-- region r's new number
abbrev pub number_in : List ℕ → ℕ → ℕ
number_in numbers r = get_or numbers r 0

-- what stands before the rows
abbrev pub head_bytes : ℕ → ℕ → ℕ → List ℕ
head_bytes items word count = bytes_of 2 items ++ (bytes_of 2 word ++ bytes_of 2 count)

-- a subtable of the columns cols; one of no rows is null
unfoldable pub table_bytes : (ℕ → ℕ) → ℕ → List ℕ → (ℕ → Set) → List ℕ → List ℕ
table_bytes number word cols set [] = []
table_bytes number word cols set (x ∷ xs) =
    head_bytes (length (x ∷ xs)) word (length cols) ++ (index_bytes number cols ++ rows_bytes word cols set (x ∷ xs))

-- what f gives for each run of the ids, one after the other
abbrev pub run_at : List ℕ → ℕ → List ℕ
run_at ids k = take max_items (drop (max_items * k) ids)

unfoldable pub runs_bytes : (List ℕ → List ℕ) → List ℕ → List ℕ
runs_bytes f ids = join_all (tabulate 0 (run_count_for (length ids)) (λ k. f (run_at ids k)))
