-- The store of final groups: their runs and where each id's row stands, the regions that are kept, the store as a value (stores/specs/Stores has
-- what one is, and how it is placed), its bytes, and the forecast.
use Rattle.std.specs.Prelude.{Bool, false, not, ◌||◌, List, [], ◌∷◌, ◌++◌, map, ℕ, suc, ◌+◌, ◌*◌, eqb, length, get_or, take, drop, set}
use Rattle.std.proofs.Math.Option.{Option, none, some}
use Rattle.laws.specs.Pick.{pick}
use Rattle.laws.specs.Bag.{weigh}
use Rattle.laws.specs.Bounded.{tabulate, up_to}
use Rattle.laws.specs.Sorting.{keep}
use Rattle.laws.specs.Joining.{join_all}
use Rattle.shapes.specs.Shape.{Shape}
use Rattle.shapes.specs.Group.{max_items}
use Rattle.reader.specs.Store.{column_start}
use Rattle.rows.specs.Columns.{columns_of, word_count}
use Rattle.rows.specs.Row.{Set, row_of}
use Rattle.rows.specs.Subtable.{run_count_for}
use Rattle.stores.specs.Stores.{Table, Parsed, place}

-- a final group: its shape, and the ids of its sets in the order of rows
pub record Final : Type 0 where
  pub shape : Shape
  pub ids : List ℕ

-- ---- runs: each of 65,535 sets, the last of what is left; `run_count_for` says how many

unfoldable pub runs_of : Final → List Final
runs_of g = tabulate 0 (run_count_for (length g.ids)) (λ k. record { shape = g.shape; ids = take max_items (drop (max_items * k) g.ids) })

unfoldable pub all_runs : List Final → List Final
all_runs gs = join_all (map runs_of gs)

-- outer, inner and the map word (F4)
unfoldable pub in_run : ℕ → ℕ → List ℕ → List (ℕ × ℕ)
in_run outer inner [] = []
in_run outer inner (x ∷ xs) = (x, outer * 65536 + inner) ∷ in_run outer (suc inner) xs

unfoldable pub id_words : ℕ → List Final → List (ℕ × ℕ)
id_words outer [] = []
id_words outer (r ∷ rs) = in_run outer 0 r.ids ++ id_words (suc outer) rs

-- the map: each id's word put at its place, one after another
unfoldable pub stored : List (ℕ × ℕ) → List ℕ → List ℕ
stored [] m = m
stored (e ∷ l) m = stored l (set m e.0 e.1)

-- ---- regions that are kept (C5)

unfoldable pub names : ℕ → List Final → Bool
names r [] = false
names r (g ∷ gs) = not (eqb (get_or g.shape r 0) 0) || names r gs

abbrev pub kept_of : ℕ → List Final → List ℕ
kept_of regions gs = keep (λ r. names r gs) (up_to regions)

-- the new number of region r
abbrev pub new_index : List Final → ℕ → ℕ
new_index gs r = length (kept_of r gs)

-- ---- the store as a value, and its bytes

-- the subtable of a run: one of no rows is null
unfoldable pub slot_of : (ℕ → ℕ) → (ℕ → Set) → Shape → List ℕ → Option Table
slot_of number set s [] = none
slot_of number set s (x ∷ xs) = some (record { word = word_count s; columns = map number (columns_of s); rows = map (λ y. row_of s (set y)) (x ∷ xs) })

-- coords has start, peak and end of each region's axes, as bytes
unfoldable pub made_of : ℕ → List (List ℕ) → (ℕ → Set) → List Final → Parsed
made_of axes coords set gs = record {
  axes = axes;
  regions = map (λ r. get_or coords r []) (kept_of (length coords) gs);
  tables = map (λ r. slot_of (new_index gs) set r.shape r.ids) (all_runs gs);
}

unfoldable pub store_of : ℕ → List (List ℕ) → (ℕ → Set) → List Final → List ℕ
store_of axes coords set gs = place (made_of axes coords set gs)

-- ---- the forecast (A3): the bytes of the store, worked out without its rows

-- a row has the bytes of its columns, by the word count (C2, V8)
abbrev pub row_bytes : Shape → ℕ
row_bytes s = column_start (word_count s) (length (columns_of s))

-- a run has an offset and, unless it is null, a head, the region number of each column and its rows
unfoldable pub run_bytes : Final → ℕ
run_bytes r = pick (eqb (length r.ids) 0) 4 (10 + 2 * length (columns_of r.shape) + length r.ids * row_bytes r.shape)

-- header, region list, runs
unfoldable pub forecast_of : ℕ → ℕ → List Final → ℕ
forecast_of axes kept gs = 12 + 6 * axes * kept + weigh run_bytes (all_runs gs)
