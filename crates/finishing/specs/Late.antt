-- What is written of a sound job, once its sets are packed, and when it is refused after all (RULES R10 to R14, R60
-- and R61, in the order T4). Assumes nothing.
use Rattle.std.specs.Prelude.{List, [], ◌∷◌, ℕ, suc, ◌-◌, ◌*◌, eqb, leb, length, get_or}
use Rattle.laws.specs.Pick.{pick}
use Rattle.laws.specs.Bytes.{over}
use Rattle.groups.specs.Groups.{max_shapes}
use Rattle.rule.specs.Told.{words}
use Rattle.store.specs.Placing.{store_of, all_runs, id_words, kept_of, forecast_of, stored}
use Rattle.said.specs.Refusals.{first_failed, most_bytes, shapes_full, ids_short, map_short, log_short, origins_short, store_too_big, out_short}
use Rattle.encoder.specs.Packed.{Packed}
use Rattle.finishing.specs.Buffers.{Buffers, Lengths, lengths}
use Rattle.finishing.specs.declared.answers.Report.{Report}
use Rattle.finishing.specs.Answers.{Built}
use Rattle.finishing.specs.Answers.{Refused, Done}

-- below, `coords` are the coordinates of the regions by region index, as bytes

-- the store: each id's row is its set
unfoldable pub store_for : ℕ → List (List ℕ) → Packed → List ℕ
store_for axes coords k = store_of axes coords (λ x. get_or k.sets x []) k.finals

-- how many regions the store keeps
unfoldable pub regions_kept : List (List ℕ) → Packed → ℕ
regions_kept coords k = length (kept_of (length coords) k.finals)

-- R10 to R13, R61, R60 and R14, in this order: too many shapes; then ids, map, log and origins too short; then a store
-- of too many bytes, and the output too short. (In mode 1 N is 0, so none of R10, R13 and R61 is given.)
unfoldable pub late_no : ℕ → List (List ℕ) → Packed → Lengths → ℕ
late_no axes coords k l =
    first_failed
    ((leb k.groups max_shapes, shapes_full)
    ∷ (leb (length k.ids) l.ids, ids_short)
    ∷ (leb (length k.sets) l.map, map_short)
    ∷ (leb (3 * (k.groups - 1)) l.log, log_short)
    ∷ (leb (2 * k.groups) l.origins, origins_short)
    ∷ (leb (length (store_for axes coords k)) most_bytes, store_too_big)
    ∷ (leb (length (store_for axes coords k)) l.out, out_short)
    ∷ [])

-- the ten counts of a done build (A1)
unfoldable pub report_of : ℕ → List (List ℕ) → Packed → Report
report_of axes coords k = record {
  bytes = length (store_for axes coords k);
  subtables = length (all_runs k.finals);
  regions = regions_kept coords k;
  ids = length k.sets;
  groups = k.groups;
  merges = length k.log;
  weighed = k.weighed;
  before = k.before;
  after = k.after;
  forecast = forecast_of axes (regions_kept coords k) k.finals;
}

-- the place is 0 (T5)
unfoldable pub late_answer : ℕ → List (List ℕ) → Packed → Lengths → Built
late_answer axes coords k l = pick (eqb (late_no axes coords k l) 0) (Done (report_of axes coords k)) (Refused (late_no axes coords k l) 0)

-- R60 by a report, whose bytes are the store's
unfoldable pub size_told : Report → Built
size_told r = pick (leb r.bytes most_bytes) (Done r) (Refused store_too_big 0)

-- the forecast of a build: R10, R60, or the report of one that is done. Nothing is lent to write to, so R11 to R14 and R61 are not given
unfoldable pub late_forecast : ℕ → List (List ℕ) → Packed → Built
late_forecast axes coords k = pick (leb k.groups max_shapes) (size_told (report_of axes coords k)) (Refused shapes_full 0)

-- ---- what is left in the buffers

-- of each starting group, numbered from i on, its number and the place of its final group (F6)
unfoldable pub origin_words : ℕ → List ℕ → List ℕ
origin_words i [] = []
origin_words i (q ∷ l) = i ∷ q ∷ origin_words (suc i) l

-- the store; of each set its id; of each id its word; of each merge its two numbers and its gain; of each starting group
-- its number and its final group. Past what is written all is as it was
unfoldable pub written : ℕ → List (List ℕ) → Packed → Buffers → Buffers
written axes coords k old = record {
  out = over old.out 0 (length (store_for axes coords k)) (store_for axes coords k);
  ids = over old.ids 0 (length k.ids) k.ids;
  map = stored (id_words 0 (all_runs k.finals)) old.map;
  log = over old.log 0 (length (words k.log)) (words k.log);
  origins = over old.origins 0 (length (origin_words 0 k.origins)) (origin_words 0 k.origins);
}

-- a refusal leaves all as it was
unfoldable pub buffers_left : ℕ → List (List ℕ) → Packed → Buffers → Buffers
buffers_left axes coords k old = pick (eqb (late_no axes coords k (lengths old)) 0) (written axes coords k old) old
