-- What lent words hold of a set that is compared with a row: the promises of `src/`, which no reader of docs/RULES.md needs.
-- Assumes nothing.
use Rattle.std.specs.Prelude.{◌≡◌, Bool, true, false, List, [], ◌∷◌, ℕ, ◌+◌, ◌*◌, ◌/◌, ◌%◌, ◌≤◌, ◌<◌, eqb, ℤ, length, get_or}
use Rattle.laws.specs.Pick.{pick}
use Rattle.laws.specs.Bytes.{be}
use Rattle.laws.specs.LentRange.{Only}
use Rattle.laws.specs.Signed.{signed, value, zero_word}
use Rattle.sets.specs.Set.{Set}
use Rattle.sets.specs.Lent.{entries}
use Rattle.reader.specs.Store.{words, region_count, find, are_columns_ok, column_start, column_width, item_count, regions_at, is_subtable_ok, in_column, value_of}
use Rattle.cells.specs.Lent.{Ahead, cell_of}
use Rattle.stores.specs.Stores.{table_count, offset_at, parse, parses}
use Rattle.giving.specs.declared.entries.Aims.{Aims}

-- ---- entries

-- the listed region that the region index at word x aims at
abbrev pub aim_at : List ℕ → Aims → ℕ → ℕ
aim_at w t x = get_or w (t.to + get_or w x 0) 0

-- the word that entries give listed region q: that of the first which aims at it, zero's where none does
unfoldable pub aim : List ℕ → Aims → Set → ℕ → ℕ
aim w t [] q = zero_word
aim w t (e ∷ s) q = pick (eqb (get_or w (t.to + e.0) 0) q) e.1 (aim w t s q)

-- every listed region has the word of zero
pub record Clean (w : List ℕ) (t : Aims) : Type 0 where
  pub zero : (q : ℕ) → q < t.listed → get_or w (t.values + q) 0 ≡ zero_word

-- so many entries from `start` on lie before the tables, and their region indexes have a word there
pub record EntriesFit (w : List ℕ) (start count : ℕ) (t : Aims) : Type 0 where
  pub body : start + 2 * count ≤ t.to
  pub to_values : t.to ≤ t.values
  pub below : (i : ℕ) → i < count → t.to + get_or w (start + 2 * i) 0 < t.values
  pub room : t.values + t.listed ≤ length w

-- an entry that aims at no listed region
pub record Lost (w : List ℕ) (start count : ℕ) (t : Aims) : Type 0 where
  pub entry : ℕ
  pub within : entry < count
  pub past : t.listed ≤ aim_at w t (start + 2 * entry)

pub record Laid (start count : ℕ) (t : Aims) (old new : List ℕ) (r : Bool) : Type 0 where
  pub only : Only ((t.values, t.listed) ∷ []) old new
  pub is : r ≡ true → (q : ℕ) → q < t.listed → get_or new (t.values + q) 0 ≡ aim old t (entries start count old) q
  pub listed-all : r ≡ true → (i : ℕ) → i < count → aim_at old t (start + 2 * i) < t.listed
  pub lost : r ≡ false → Lost old start count t

-- an entry whose listed region has another word than zero's
pub record Unmet (w : List ℕ) (start count : ℕ) (t : Aims) : Type 0 where
  pub entry : ℕ
  pub within : entry < count
  pub differs : get_or w (t.values + aim_at w t (start + 2 * entry)) 0 ≡ zero_word → ⊥

pub record Met (w : List ℕ) (start count : ℕ) (t : Aims) (r : Bool) : Type 0 where
  pub met : r ≡ true → (i : ℕ) → i < count → get_or w (t.values + aim_at w t (start + 2 * i)) 0 ≡ zero_word
  pub unmet : r ≡ false → Unmet w start count t

-- ---- columns

-- the region of column j, where the region indexes begin at `at`, and its value in the row at `row`
abbrev pub column_of : List ℕ → ℕ → ℕ → ℕ
column_of s at j = be 2 s (at + 2 * j)

abbrev pub cell_at : List ℕ → ℕ → ℕ → ℕ → ℤ
cell_at s row word j = signed (column_width word j) (be (column_width word j) s (row + column_start word j))

pub record ColumnsFit (s : List ℕ) (at row word n : ℕ) (w : List ℕ) (t : Aims) : Type 0 where
  pub word_low : word < 65536
  pub columns-few : n < 65536
  pub columns-in : at + 2 * n ≤ length s
  pub cells_in : row + column_start word n ≤ length s
  pub named : are_columns_ok t.listed (words s at n) ≡ true
  pub room : t.values + t.listed ≤ t.zeros
  pub ahead : Ahead s t.zeros w

-- column j's cell is not zero
abbrev pub Nonzero : List ℕ → (row word j : ℕ) → Type 0
Nonzero s row word j = cell_of s row word j ≡ 0 → ⊥

-- a column whose cell is not zero, and whose value is not that of its region's word
pub record Differs (s : List ℕ) (at row word n : ℕ) (w : List ℕ) (t : Aims) : Type 0 where
  pub column : ℕ
  pub within : column < n
  pub nonzero : Nonzero s row word column
  pub differs : value (get_or w (t.values + column_of s at column) 0) ≡ cell_at s row word column → ⊥

pub record Passed (s : List ℕ) (at row word n : ℕ) (t : Aims) (old new : List ℕ) (r : Bool) : Type 0 where
  pub only : Only ((t.values, t.listed) ∷ []) old new
  pub same : r ≡ true → (j : ℕ) → j < n → Nonzero s row word j → value (get_or old (t.values + column_of s at j) 0) ≡ cell_at s row word j
  pub crossed : r ≡ true → (j : ℕ) → j < n → Nonzero s row word j → get_or new (t.values + column_of s at j) 0 ≡ zero_word
  pub rest : r ≡ true → (q : ℕ) → q < t.listed → ((j : ℕ) → j < n → Nonzero s row word j → column_of s at j ≡ q → ⊥)
      → get_or new (t.values + q) 0 ≡ get_or old (t.values + q) 0
  pub other : r ≡ false → Differs s at row word n old t

-- ---- a row

-- what row `inner` of the subtable at `at` has for listed region q
abbrev pub row_value : List ℕ → ℕ → ℕ → ℕ → ℤ
row_value s at inner q = value_of (in_column s at inner (find q 0 (regions_at s at)))

-- the row gives the set of so many entries from `start` on
pub record Given (s : List ℕ) (at inner : ℕ) (w : List ℕ) (start count : ℕ) (t : Aims) : Type 0 where
  pub listed-all : (i : ℕ) → i < count → aim_at w t (start + 2 * i) < t.listed
  pub reads : (q : ℕ) → q < t.listed → row_value s at inner q ≡ value (aim w t (entries start count w) q)

pub record RowFit (s : List ℕ) (at inner : ℕ) (w : List ℕ) (start count : ℕ) (t : Aims) : Type 0 where
  pub fits : EntriesFit w start count t
  pub clean : Clean w t
  pub behind : t.values + t.listed ≤ t.zeros
  pub ahead : Ahead s t.zeros w
  pub good : is_subtable_ok s at t.listed ≡ true
  pub inner-in : inner < item_count s at
  pub inner-low : inner < 65536
  pub at_low : at < 4294967296

pub record RowJudged (s : List ℕ) (at inner start count : ℕ) (t : Aims) (old new : List ℕ) (r : Bool) : Type 0 where
  pub only : Only ((t.values, t.listed) ∷ []) old new
  pub given : r ≡ true → Given s at inner old start count t
  pub clean : r ≡ true → Clean new t
  pub not-given : r ≡ false → Given s at inner old start count t → ⊥

-- ---- a set

-- where set k's entries start, and how many there are, of sets whose rows are the first words
abbrev pub start_in : List ℕ → ℕ → ℕ
start_in w k = get_or w (2 * k) 0

abbrev pub count_in : List ℕ → ℕ → ℕ
count_in w k = get_or w (2 * k + 1) 0

-- a word's subtable and row
abbrev pub outer_of : ℕ → ℕ
outer_of w = w / 65536

abbrev pub inner_of : ℕ → ℕ
inner_of w = w % 65536

-- set k has a word, which names a row, and the row gives the set
pub record SetGiven (s words w : List ℕ) (t : Aims) (k : ℕ) : Type 0 where
  pub word-there : k < length words
  pub outer-there : outer_of (get_or words k 0) < table_count s
  pub not_null : offset_at s (outer_of (get_or words k 0)) ≡ 0 → ⊥
  pub inner-there : inner_of (get_or words k 0) < item_count s (offset_at s (outer_of (get_or words k 0)))
  pub given : Given s (offset_at s (outer_of (get_or words k 0))) (inner_of (get_or words k 0)) w (start_in w k) (count_in w k) t

pub record SetsFit (s : List ℕ) (k : ℕ) (w : List ℕ) (t : Aims) : Type 0 where
  pub parsed : parses (parse s) ≡ true
  pub listed-are : t.listed ≡ region_count s
  pub row : 2 * k + 2 ≤ t.to
  pub fits : EntriesFit w (start_in w k) (count_in w k) t
  pub clean : Clean w t
  pub behind : t.values + t.listed ≤ t.zeros
  pub ahead : Ahead s t.zeros w

pub record SetJudged (s words : List ℕ) (k : ℕ) (t : Aims) (old new : List ℕ) (r : Bool) : Type 0 where
  pub only : Only ((t.values, t.listed) ∷ []) old new
  pub given : r ≡ true → SetGiven s words old t k
  pub clean : r ≡ true → Clean new t
  pub not-given : r ≡ false → SetGiven s words old t k → ⊥

-- set r is the first that is not given, and every set is where r is their number
pub record FirstFailing (s words : List ℕ) (sets : ℕ) (t : Aims) (old new : List ℕ) (r : ℕ) : Type 0 where
  pub only : Only ((t.values, t.listed) ∷ []) old new
  pub within : r ≤ sets
  pub before-it : (k : ℕ) → k < r → SetGiven s words old t k
  pub fails : r < sets → SetGiven s words old t r → ⊥
