-- What the functions that finish a build ask and leave. Assumes nothing.
use Rattle.std.specs.Prelude.{◌≡◌, List, [], ◌∷◌, ℕ, ◌+◌, ◌-◌, ◌*◌, ◌≤◌, ◌<◌, leb, length, get_or}
use Rattle.laws.specs.Bytes.{over}
use Rattle.laws.specs.LentRange.{Only, seg}
use Rattle.store.specs.Placing.{store_of, all_runs, id_words, stored}
use Rattle.rows.specs.Lent.{set_at}
use Rattle.store.specs.Lent.{Drafted, Sourced, coords_in, finals_at}
use Rattle.said.specs.Refusals.{first_failed, most_bytes, ids_short, map_short, log_short, origins_short, store_too_big, out_short}
use Rattle.encoder.specs.Packed.{Packed}
use Rattle.encoder.specs.Lent.{PackedAt, relabel, origins_in}
use Rattle.encoder.specs.declared.places.Places.{Places}
use Rattle.encoder.specs.declared.encoded.Encoded.{Encoded}
use Rattle.limits.specs.Limits.{most_axes, max_shapes}
use Rattle.finishing.specs.declared.answers.Report.{Report}
use Rattle.finishing.specs.declared.measuring.Packing.{Packing}
use Rattle.finishing.specs.Answers.{Built}
use Rattle.finishing.specs.Buffers.{Buffers, lengths}
use Rattle.finishing.specs.Late.{origin_words, late_answer, buffers_left}

-- sets are packed in work, and from `starts` on stands for each region where in the job its coordinates start
pub record FinishFit (axes starts : ℕ) (job : List ℕ) (p : Places) (e : Encoded) (w : List ℕ) : Type 0 where
  pub axes-few : axes ≤ most_axes
  pub packed-as : Packed
  pub packed : PackedAt packed-as p e w
  pub starts-to : starts + p.regions ≤ p.rows
  pub sourced : (r : ℕ) → r < p.regions → Sourced axes job (get_or w (starts + r) 0)
  -- each merge leaves one group less, and ids are dense
  pub merges-few : e.merges ≤ e.groups - 1
  pub ids-below : (x : ℕ) → x < p.sets → get_or w (p.ids + x) 0 < e.distinct

-- the answer, and the buffers before and after
pub record Finished (axes : ℕ) (coords : List (List ℕ)) (k : Packed) (r : Built) (old new : Buffers) : Type 0 where
  pub answer : r ≡ late_answer axes coords k (lengths old)
  pub left : new ≡ buffers_left axes coords k old

-- the rows from `rows` on, numbers of sets, became ids, which stand from `ids` on
pub record RowsNamed (rows n ids : ℕ) (old new : List ℕ) : Type 0 where
  pub only : Only ((rows, n) ∷ []) old new
  pub at : (q : ℕ) → q < n → get_or old (rows + q) 0 < n → get_or new (rows + q) 0 ≡ get_or old (ids + get_or old (rows + q) 0) 0

-- Tests 11 to 13, 61, 60 and 14 over plain numbers: the sets, distinct ids, N and bytes of a store, and how long is what is lent for them.
unfoldable pub short_no : ℕ → ℕ → ℕ → ℕ → ℕ → ℕ → ℕ → ℕ → ℕ → ℕ
short_no sets distinct groups bytes out ids map log origins =
    first_failed
    ((leb sets ids, ids_short)
    ∷ (leb distinct map, map_short)
    ∷ (leb (3 * (groups - 1)) log, log_short)
    ∷ (leb (2 * groups) origins, origins_short)
    ∷ (leb bytes most_bytes, store_too_big)
    ∷ (leb bytes out, out_short)
    ∷ [])

-- none of them applies
pub record RoomFor (sets distinct groups bytes out ids map log origins : ℕ) : Type 0 where
  pub ids-room : sets ≤ ids
  pub map-room : distinct ≤ map
  pub log-room : 3 * (groups - 1) ≤ log
  pub origins-room : 2 * groups ≤ origins
  pub bytes-few : bytes ≤ most_bytes
  pub out-room : bytes ≤ out

-- the store of what is packed in work, by the numbers of sets
abbrev pub store_in : ℕ → ℕ → List ℕ → Places → Encoded → List ℕ → List ℕ
store_in axes starts job p e w = store_of axes (coords_in job axes w starts p.regions) (set_at 0 w) (finals_at p.regions p.finals e.count w)

-- the same sets, and what else is asked of them before ids, map, log and origins are written
pub record WordsFit (p : Places) (e : Encoded) (w : List ℕ) : Type 0 where
  pub packed-as : Packed
  pub packed : PackedAt packed-as p e w
  pub merges-few : e.merges ≤ e.groups - 1
  pub ids-below : (x : ℕ) → x < p.sets → get_or w (p.ids + x) 0 < e.distinct

-- the slot of each of so many starting groups, and the final group of each slot, stand in work
pub record OriginsFit (p : Places) (groups : ℕ) (w : List ℕ) : Type 0 where
  pub few : groups ≤ max_shapes
  pub order-to : p.order + groups ≤ length w
  pub homes-to : (i : ℕ) → i < groups → p.homes + get_or w (p.order + i) 0 < length w

-- the words of their origins
abbrev pub origins_told : Places → ℕ → List ℕ → List ℕ
origins_told p groups w = origin_words 0 (origins_in p groups w)

-- ids, map, log and origins have what belongs there
pub record WordsWritten (p : Places) (e : Encoded) (w ids map log origins ids' map' log' origins' : List ℕ) : Type 0 where
  pub ids-is : ids' ≡ over ids 0 p.sets (seg p.ids p.sets w)
  pub log_is : log' ≡ over log 0 (3 * e.merges) (seg p.log (3 * e.merges) w)
  pub origins-is : origins' ≡ over origins 0 (2 * e.groups) (origins_told p e.groups w)
  pub map_is : map' ≡ stored (id_words 0 (all_runs (relabel (λ x. get_or (seg p.ids p.sets w) x 0) (finals_at p.regions p.finals e.count w)))) map

-- the report of what was made of sets, of so many bytes, subtables and regions
unfoldable pub report_in : Encoded → ℕ → ℕ → ℕ → Report
report_in e bytes runs kept = record {
  bytes = bytes;
  subtables = runs;
  regions = kept;
  ids = e.distinct;
  groups = e.groups;
  merges = e.merges;
  weighed = e.weighed;
  before = e.before;
  after = e.after;
  forecast = bytes;
}

-- that report of the draft of what is packed
pub record MeasuredAs (k : Packing) (w marks numbers : List ℕ) (r : Report) : Type 0 where
  pub drafted : Drafted k.axes w k.places.regions k.places.finals k.encoded.count marks numbers r.bytes r.subtables r.regions
  pub report-is : r ≡ report_in k.encoded r.bytes r.subtables r.regions
