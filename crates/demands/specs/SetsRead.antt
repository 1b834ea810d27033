-- A job's sets in the memory that a done build leaves, from the bytes of the one to the bytes of the other: D2 with
-- nothing in between. Assumes nothing.
use Rattle.std.specs.Prelude.{◌≡◌, List, ◌⊎◌, ℕ, ◌+◌, ◌*◌, ◌<◌, ℤ, pos, get_or, take, drop}
use Rattle.laws.specs.Bytes.{be}
use Rattle.laws.specs.Signed.{signed}
use Rattle.reader.specs.Store.{Written, NoColumn, read_store, value_of, list_at, region_count}
use Rattle.said.specs.Records.{region_number, record_at, record_count}
use Rattle.told.specs.Told.{ends_before, ValueIn, coordinates_at}
use Rattle.finishing.specs.declared.answers.Report.{Report}
use Rattle.call.specs.Lending.{Lending}
use Rattle.call.specs.Build.{region_bytes, after}

-- the coordinates of region q of a store's list, as they stand there
abbrev pub listed : ℕ → List ℕ → ℕ → List ℕ
listed axes store q = take (6 * axes) (drop (list_at store + 4 + 6 * axes * q) store)

-- those of the region that record i of a job names, by its axis records
abbrev pub named_by : ℕ → List ℕ → ℕ → List ℕ
named_by axes job i = region_bytes (coordinates_at axes job (region_number (record_at job i)))

-- the value of record i
abbrev pub value_at : List ℕ → ℕ → ℤ
value_at job i = signed 4 (be 4 (record_at job i) 4)

-- the region that record i names is in the store's list
pub record InStore (axes : ℕ) (job store : List ℕ) (i : ℕ) : Type 0 where
  pub index : ℕ
  pub below : index < region_count store
  pub coordinates : listed axes store index ≡ named_by axes job i

-- set n of a job, read from a store at a map word
pub record SetRead (axes : ℕ) (job store : List ℕ) (n at : ℕ) : Type 0 where
  -- the map word has the subtable and the row
  pub outer : ℕ
  pub inner : ℕ
  pub outer_below : outer < 65536
  pub inner_below : inner < 65536
  pub word-is : at ≡ outer * 65536 + inner
  -- no region of the store's list is refused
  pub answers : (q : ℕ) → q < region_count store
      → (read_store store outer inner q ≡ Written (value_of (read_store store outer inner q))) ⊎ (read_store store outer inner q ≡ NoColumn)
  -- each value record of the set has its value there, at the region of the same coordinates
  pub given : (i : ℕ) → ValueIn job n i → (q : ℕ) → q < region_count store → listed axes store q ≡ named_by axes job i
      → value_of (read_store store outer inner q) ≡ value_at job i
  -- and that region is in the list, but where the value is zero
  pub in_list : (i : ℕ) → ValueIn job n i → (value_at job i ≡ pos 0 → ⊥) → InStore axes job store i
  -- a region that the set's records do not name has zero there
  pub unnamed : (q : ℕ) → q < region_count store → ((i : ℕ) → ValueIn job n i → listed axes store q ≡ named_by axes job i → ⊥)
      → value_of (read_store store outer inner q) ≡ pos 0

-- every end record of a job, in the memory that was lent: the store is what the output begins with, the place is the map's word of the set's id
pub record SetsRead (c : Lending) (r : Report) : Type 0 where
  pub sets-read : (n : ℕ) → n < ends_before c.job (record_count c.job)
      → SetRead c.axes c.job (take r.bytes (after c).lent.out) n (get_or (after c).lent.map (get_or (after c).lent.ids n 0) 0)
