-- P1 to P5 and P7 of docs/RULES.md: store bytes, map words and forecasts by the definitions, as one statement. Assumes
-- nothing.
use mathlib.Core.Path.{◌≡◌, refl}
use mathlib.Core.List.{List, [], ◌∷◌, map}
use Prim.Native.Nat.{ℕ, ◌+◌, ◌-◌}
use lib.ListN.{length}
use Rattle.laws.specs.Bag.{weigh}
use Rattle.laws.specs.Bytes.{bytes_of}
use Rattle.laws.specs.Signed.{twos, value}
use Rattle.laws.specs.Bounded.{tabulate}
use Rattle.laws.specs.Sorting.{keep}
use Rattle.laws.specs.Joining.{join_all}
use Rattle.shapes.specs.Shape.{Shape}
use Rattle.reader.specs.Store.{column_start}
use Rattle.stores.specs.Stores.{table_bytes, slot_bytes, offsets, list_bytes, place}
use Rattle.rows.specs.Columns.{add_if, of_width, columns_of, word_count, bytes_for_width}
use Rattle.rows.specs.Row.{Set, word_in, cells_of, row_of}
use Rattle.rows.specs.Subtable.{run_count_for}
use Rattle.store.specs.Placing.{Final, runs_of, all_runs, in_run, id_words, names, kept_of, slot_of, made_of, store_of, run_bytes, forecast_of}

-- R0 and R1
abbrev r0 : List ℕ
r0 = 0 ∷ 0 ∷ 0x40 ∷ 0 ∷ 0x40 ∷ 0 ∷ []

abbrev r1 : List ℕ
r1 = 0xC0 ∷ 0 ∷ 0xC0 ∷ 0 ∷ 0 ∷ 0 ∷ []

-- the coordinates of the regions, the final groups, and the one set
pub record Job : Type 0 where
  pub coords : List (List ℕ)
  pub groups : List Final
  pub set : Set

pub record Built : Type 0 where
  pub bytes : List ℕ
  pub words : List (ℕ × ℕ)
  pub forecast : ℕ

abbrev built : Job → Built
built j = record {
  bytes = store_of 1 j.coords (λ x. j.set) j.groups;
  words = id_words 0 (all_runs j.groups);
  forecast = forecast_of 1 (length (kept_of (length j.coords) j.groups)) j.groups;
}

-- the word of n, and of -n
abbrev plus : ℕ → ℕ
plus n = 0x8000_0000 + n

abbrev less : ℕ → ℕ
less n = 0x8000_0000 - n

-- no sets: no group in mode 0, one empty group in mode 1
abbrev bare : List Final → Job
bare gs = record { coords = []; groups = gs; set = [] }

-- one set in one group: the coordinates of its regions, its shape, its entries
abbrev job : List (List ℕ) → Shape → Set → Job
job c s e = record { coords = c; groups = record { shape = s; ids = 0 ∷ [] } ∷ []; set = e }

-- P1 no sets, P2 the same in mode 1, P3 {R0:10}, P4 {R0:0}, P5 {R0:-128, R1:128}, P7 {R0:100, R1:70000}
abbrev jobs : List Job
jobs =
    bare []
    ∷ bare (record { shape = []; ids = [] } ∷ [])
    ∷ job (r0 ∷ []) (1 ∷ []) ((0, plus 10) ∷ [])
    ∷ job (r0 ∷ []) (0 ∷ []) []
    ∷ job (r0 ∷ r1 ∷ []) (1 ∷ 2 ∷ []) ((0, less 128) ∷ (1, plus 128) ∷ [])
    ∷ job (r0 ∷ r1 ∷ []) (1 ∷ 4 ∷ []) ((0, plus 100) ∷ (1, plus 70000) ∷ [])
    ∷ []

abbrev answer : List ℕ → ℕ → Built
answer b f = record { bytes = b; words = (0, 0) ∷ []; forecast = f }

abbrev answer_none : List ℕ → ℕ → Built
answer_none b f = record { bytes = b; words = []; forecast = f }

abbrev answers : List Built
answers =
    answer_none (0 ∷ 1 ∷ 0 ∷ 0 ∷ 0 ∷ 0x08 ∷ 0 ∷ 0 ∷ 0 ∷ 1 ∷ 0 ∷ 0 ∷ []) 12
    ∷ answer_none (0 ∷ 1 ∷ 0 ∷ 0 ∷ 0 ∷ 0x0C ∷ 0 ∷ 1 ∷ 0 ∷ 0 ∷ 0 ∷ 0 ∷ 0 ∷ 1 ∷ 0 ∷ 0 ∷ []) 16
    ∷ answer
    (0 ∷ 1 ∷ 0 ∷ 0 ∷ 0 ∷ 0x0C ∷ 0 ∷ 1 ∷ 0 ∷ 0 ∷ 0 ∷ 0x16
    ∷ 0 ∷ 1 ∷ 0 ∷ 1 ∷ 0 ∷ 0 ∷ 0x40 ∷ 0 ∷ 0x40 ∷ 0
    ∷ 0 ∷ 1 ∷ 0 ∷ 0 ∷ 0 ∷ 1 ∷ 0 ∷ 0 ∷ 0x0A ∷ []) 31
    ∷ answer
    (0 ∷ 1 ∷ 0 ∷ 0 ∷ 0 ∷ 0x0C ∷ 0 ∷ 1 ∷ 0 ∷ 0 ∷ 0 ∷ 0x10
    ∷ 0 ∷ 1 ∷ 0 ∷ 0
    ∷ 0 ∷ 1 ∷ 0 ∷ 0 ∷ 0 ∷ 0 ∷ []) 22
    ∷ answer
    (0 ∷ 1 ∷ 0 ∷ 0 ∷ 0 ∷ 0x0C ∷ 0 ∷ 1 ∷ 0 ∷ 0 ∷ 0 ∷ 0x1C
    ∷ 0 ∷ 1 ∷ 0 ∷ 2 ∷ 0 ∷ 0 ∷ 0x40 ∷ 0 ∷ 0x40 ∷ 0 ∷ 0xC0 ∷ 0 ∷ 0xC0 ∷ 0 ∷ 0 ∷ 0
    ∷ 0 ∷ 1 ∷ 0 ∷ 1 ∷ 0 ∷ 2 ∷ 0 ∷ 1 ∷ 0 ∷ 0 ∷ 0x00 ∷ 0x80 ∷ 0x80 ∷ []) 41
    ∷ answer
    (0 ∷ 1 ∷ 0 ∷ 0 ∷ 0 ∷ 0x0C ∷ 0 ∷ 1 ∷ 0 ∷ 0 ∷ 0 ∷ 0x1C
    ∷ 0 ∷ 1 ∷ 0 ∷ 2 ∷ 0 ∷ 0 ∷ 0x40 ∷ 0 ∷ 0x40 ∷ 0 ∷ 0xC0 ∷ 0 ∷ 0xC0 ∷ 0 ∷ 0 ∷ 0
    ∷ 0 ∷ 1 ∷ 0x80 ∷ 1 ∷ 0 ∷ 2 ∷ 0 ∷ 1 ∷ 0 ∷ 0 ∷ 0x00 ∷ 0x01 ∷ 0x11 ∷ 0x70 ∷ 0x00 ∷ 0x64 ∷ []) 44
    ∷ []

pub p1-to-p5-p7 : map built jobs ≡ answers
unfolding weigh bytes_of twos value tabulate keep column_start add_if of_width columns_of word_count bytes_for_width word_in cells_of row_of join_all run_count_for runs_of all_runs in_run id_words names slot_of made_of table_bytes slot_bytes offsets list_bytes place store_of run_bytes forecast_of
p1-to-p5-p7 = refl
