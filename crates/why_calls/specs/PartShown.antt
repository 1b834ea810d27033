-- What a call of `ivs_show` that is taken shows of an id: the record that ends its first set, or its row, whose bytes are its values (RULES Z5, Z6, Z8).
-- Assumes nothing.
use Rattle.std.specs.Prelude.{◌≡◌, true, List, ℕ, ◌+◌, ◌*◌, ◌/◌, ◌%◌, ◌≤◌, ◌<◌, ℤ, pos, length, get_or, take, drop}
use Rattle.reader.specs.Store.{is_header_ok, region_count, is_subtable_ok, item_count, word_at, regions_at, find, value_of}
use Rattle.stores.specs.Stores.{table_count, offset_at, rows_at, row_long, read_row}
use Rattle.said.specs.Records.{record_bytes, record_start, record_at, record_count, kind, end_kind}
use Rattle.told.specs.Told.{ends_before, ValueIn}
use Rattle.call.specs.Lending.{Lending, Left}
use Rattle.demands.specs.SetsRead.{listed, named_by, value_at, InStore}

-- ---- the words of a report (Z8): where the part starts, how long it is, and so its bytes

abbrev pub start_told : List ℕ → ℕ
start_told report = get_or report 2 0

abbrev pub long_told : List ℕ → ℕ
long_told report = get_or report 3 0

abbrev pub bytes_told : (of report : List ℕ) → List ℕ
bytes_told of report = take (long_told report) (drop (start_told report) of)

-- ---- the end record (Z5)

-- the record at a place ends set n: it is an end record, n end records stand before it, and so do all value records of the set, and of no later one
pub record Ends (job : List ℕ) (n place : ℕ) : Type 0 where
  pub within : place < record_count job
  pub is-end : kind (record_at job place) ≡ end_kind
  pub before : ends_before job place ≡ n
  pub its-values : (i : ℕ) → ValueIn job n i → i < place
  pub later-values : (m i : ℕ) → n < m → ValueIn job m i → place < i

-- set n is the first that has an id, by the ids that are left
pub record FirstOf (job ids : List ℕ) (id n : ℕ) : Type 0 where
  pub there : n < ends_before job (record_count job)
  pub has-id : get_or ids n 0 ≡ id
  pub first : (m : ℕ) → m < n → get_or ids m 0 ≡ id → ⊥

pub record EndShown (c : Lending) (id : ℕ) (l : Left) (report : List ℕ) : Type 0 where
  pub set : ℕ
  pub place : ℕ
  pub first_of : FirstOf c.job l.lent.ids id set
  pub ends : Ends c.job set place
  -- the whole record
  pub start_is : start_told report ≡ record_start place
  pub long-is : long_told report ≡ record_bytes

-- ---- the row (Z6)

-- row inner of the subtable at at of a store: no test of V1 to V5 fails, and the part is its columns' bytes
pub record IsRow (store : List ℕ) (outer inner at : ℕ) (report : List ℕ) : Type 0 where
  pub header : is_header_ok store ≡ true
  pub outer-there : outer < table_count store
  pub at-is : at ≡ offset_at store outer
  pub not_null : at ≡ 0 → ⊥
  pub sound : is_subtable_ok store at (region_count store) ≡ true
  pub row-there : inner < item_count store at
  pub long-is : long_told report ≡ row_long store at
  pub start_is : 0 < long_told report → start_told report ≡ rows_at store at + inner * row_long store at
  -- of no columns: an empty part, at 0 (Z7)
  pub none-at : long_told report ≡ 0 → start_told report ≡ 0
  pub within : start_told report + long_told report ≤ length store

-- what the bytes of a row of the subtable at at have for region q of the store's list
abbrev pub value_shown : (store : List ℕ) (at : ℕ) (row : List ℕ) → ℕ → ℤ
value_shown store at row q = value_of (read_row (word_at store at) row (find q 0 (regions_at store at)))

-- those bytes alone give the values of set n back
pub record RowGives (axes : ℕ) (job store : List ℕ) (at : ℕ) (row : List ℕ) (n : ℕ) : Type 0 where
  -- each value record of the set has its value there, at the region of the same coordinates
  pub given : (i : ℕ) → ValueIn job n i → (q : ℕ) → q < region_count store → listed axes store q ≡ named_by axes job i → value_shown store at row q ≡ value_at job i
  -- and that region is in the list, but where the value is zero
  pub in_list : (i : ℕ) → ValueIn job n i → (value_at job i ≡ pos 0 → ⊥) → InStore axes job store i
  -- a region that the set's records do not name has zero there
  pub unnamed : (q : ℕ) → q < region_count store → ((i : ℕ) → ValueIn job n i → listed axes store q ≡ named_by axes job i → ⊥) → value_shown store at row q ≡ pos 0

pub record RowShown (c : Lending) (store : List ℕ) (id : ℕ) (l : Left) (report : List ℕ) : Type 0 where
  pub at : ℕ
  -- the row of the id's map word (F4)
  pub is_row : IsRow store (get_or l.lent.map id 0 / 65536) (get_or l.lent.map id 0 % 65536) at report
  -- a set has the id, and the row gives back every set that has it
  pub set : ℕ
  pub first_of : FirstOf c.job l.lent.ids id set
  pub gives : (n : ℕ) → n < ends_before c.job (record_count c.job) → get_or l.lent.ids n 0 ≡ id → RowGives c.axes c.job store at (bytes_told store report) n
