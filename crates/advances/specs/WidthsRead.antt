-- D2 carried on to the width table (HVAR): of a job with a set for each glyph, written as a table from what a done build leaves, each glyph's
-- adjustment for every region comes back from the table's bytes alone, and zero where its set names none. Assumes nothing.
use Rattle.std.specs.Prelude.{◌≡◌, true, List, [], ◌⊎◌, ℕ, ◌<◌, pos, length, get_or, take, drop, Ok}
use Rattle.laws.specs.Bounded.{tabulate}
use Rattle.reader.specs.Store.{Written, NoColumn, value_of, region_count}
use Rattle.stores.specs.Stores.{is_whole_ok}
use Rattle.told.specs.Told.{ValueIn}
use Rattle.widths.specs.Answers.{widths_of, widths_left}
use Rattle.widths.specs.Reading.{store_at, width_reading}
use Rattle.finishing.specs.declared.answers.Report.{Report}
use Rattle.call.specs.Lending.{Lending}
use Rattle.call.specs.Build.{after}
use Rattle.refusing.specs.Counts.{end_records}
use Rattle.demands.specs.SetsRead.{listed, named_by, value_at, InStore}

-- the store of a table: what stands from its offset on
abbrev pub store_in : List ℕ → List ℕ
store_in t = drop (store_at t) t

-- set g of a job as the adjustments of glyph g, read from a table
pub record GlyphRead (axes : ℕ) (job table : List ℕ) (g : ℕ) : Type 0 where
  -- no region of the table's list is refused
  pub answers : (q : ℕ) → q < region_count (store_in table) → (width_reading table g q ≡ Written (value_of (width_reading table g q))) ⊎ (width_reading table g q ≡ NoColumn)
  -- each value record of the set has its value there, at the region of the same coordinates
  pub given : (i : ℕ) → ValueIn job g i → (q : ℕ) → q < region_count (store_in table) → listed axes (store_in table) q ≡ named_by axes job i
      → value_of (width_reading table g q) ≡ value_at job i
  -- and that region is in the list, but where the value is zero
  pub in_list : (i : ℕ) → ValueIn job g i → (value_at job i ≡ pos 0 → ⊥) → InStore axes job (store_in table) i
  -- a region that the set's records do not name has zero there
  pub unnamed : (q : ℕ) → q < region_count (store_in table) → ((i : ℕ) → ValueIn job g i → listed axes (store_in table) q ≡ named_by axes job i → ⊥)
      → value_of (width_reading table g q) ≡ pos 0

-- what a build leaves for the writer: the store, and of each set the map's word of its id
abbrev pub store_left : Lending → Report → List ℕ
store_left c r = take r.bytes (after c).lent.out

abbrev pub set_words : Lending → List ℕ
set_words c = tabulate 0 (end_records c.job) (λ n. get_or (after c).lent.map (get_or (after c).lent.ids n 0) 0)

-- every set as the glyph of its number, in the table that is written of these words to any output
abbrev pub TableRead : Lending → Report → List ℕ → Type 0
TableRead c r words =
    (out : List ℕ) (n : ℕ)
    → widths_of (store_left c r) words (length out) ≡ Ok n
    → (g : ℕ) → g < end_records c.job → GlyphRead c.axes c.job (take n (widths_left (store_left c r) words out)) g

pub record WidthsRead (c : Lending) (r : Report) : Type 0 where
  -- the store is well formed throughout
  pub well-formed : is_whole_ok (store_left c r) ≡ true
  -- in both modes with a map
  pub by_map : TableRead c r (set_words c)
  -- in mode 1 without one
  pub by_number : c.mode ≡ 1 → TableRead c r []
