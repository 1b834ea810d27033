-- P1 to P12 of docs/RULES.md, as one statement over one list: for each a whole job, byte by byte, and what a build of
-- it answers and leaves in everything lent, by the definitions. Assumes nothing.
use mathlib.Core.Path.{◌≡◌, refl}
use mathlib.Core.List.{List, [], ◌∷◌, ◌++◌, map}
use Prim.Native.Nat.{ℕ, suc, ◌-◌}
use lib.IntN.{ℤ, pos, negsuc}
use lib.ListN.{length, replicate}
use Rattle.laws.specs.Bag.{weigh}
use Rattle.laws.specs.Bounded.{all_below, tabulate}
use Rattle.laws.specs.Bytes.{be, bytes_of}
use Rattle.laws.specs.Order.{compared, then_by, is_most}
use Rattle.laws.specs.Signed.{fits, is_zero, signed, twos, word, value}
use Rattle.laws.specs.Sorting.{insert, sorted, keep}
use Rattle.laws.specs.Joining.{join_all}
use Rattle.shapes.specs.Width.{width_of, cost_of}
use Rattle.shapes.specs.Shape.{cost_of_row, columns, overhead, join}
use Rattle.shapes.specs.Order as shapes
use Rattle.shapes.specs.Group.{group_cost, joined, gain}
use Rattle.sets.specs.Set.{word_of, same_set}
use Rattle.sets.specs.Order as sets
use Rattle.sets.specs.Ids.{place, with_set, ids_from, distinct_from}
use Rattle.groups.specs.Groups as groups
use Rattle.groups.specs.Cover.{cover_from}
use Rattle.rule.specs.Model as rule
use Rattle.rule.specs.Told.{words}
use Rattle.reader.specs.Store.{column_start}
use Rattle.rows.specs.Columns.{add_if, of_width, columns_of, word_count, bytes_for_width}
use Rattle.rows.specs.Row.{word_in, cells_of, row_of}
use Rattle.rows.specs.Subtable as rows
use Rattle.stores.specs.Stores as stores
use Rattle.store.specs.Placing as store
use Rattle.store.specs.Placing.{stored}
use Rattle.said.specs.Records.{must_be_zero, first_not_zero, first_wrong_byte, value_as_word}
use Rattle.said.specs.Refusals.{first_failed, published_work, job_work, pair_records, early_refusal, in_turn, form_refusal, value_no, end_refusal}
use Rattle.said.specs.Work.{axis_run, regions_at_head}
use Rattle.said.specs.Sets as said
use Rattle.said.specs.Job as job
use Rattle.job.specs.Check.{work_left}
use Rattle.encoder.specs.Packed as packed
use Rattle.finishing.specs.declared.answers.Report.{Report}
use Rattle.finishing.specs.Answers.{Built}
use Rattle.finishing.specs.Answers.{Done}
use Rattle.pairs.specs.declared.Pair.{Pair}
use Rattle.finishing.specs.Buffers.{Buffers, buffers, lengths}
use Rattle.finishing.specs.Late.{store_for, regions_kept, origin_words, late_no, report_of, late_answer, written, buffers_left}
use Rattle.call.specs.Lending.{lending}
use Rattle.call.specs.Build.{region_bytes, coords_in_use, packed_of, answer_from, left_from, answer_of, after}

-- ---- jobs of one axis, with R0 and R1: in each set a region number and a value for each value record

abbrev R0 : ℕ
R0 = 0

abbrev R1 : ℕ
R1 = 1

abbrev Values : Type 0
Values = List (ℕ × ℤ)

-- one value, two values
abbrev one : ℕ → ℤ → Values
one r v = (r, v) ∷ []

abbrev two : ℕ → ℤ → ℕ → ℤ → Values
two r v q u = (r, v) ∷ (q, u) ∷ []

-- n, and -n
abbrev plus : ℕ → ℤ
plus n = pos n

abbrev less : ℕ → ℤ
less n = negsuc (n - 1)

-- the axis record of a region, by start, peak and end
abbrev axis_record : ℕ → ℕ → ℕ → ℕ → List ℕ
axis_record region start peak end = 1 ∷ region ∷ 0 ∷ 0 ∷ (bytes_of 2 start ++ (bytes_of 2 peak ++ (bytes_of 2 end ++ (0 ∷ 0 ∷ []))))

abbrev value_record : ℕ → ℤ → List ℕ
value_record region v = 2 ∷ region ∷ 0 ∷ 0 ∷ (bytes_of 4 (twos 4 v) ++ (0 ∷ 0 ∷ 0 ∷ 0 ∷ []))

abbrev end_record : List ℕ
end_record = 3 ∷ 0 ∷ 0 ∷ 0 ∷ 0 ∷ 0 ∷ 0 ∷ 0 ∷ 0 ∷ 0 ∷ 0 ∷ 0 ∷ []

unfoldable pub set_records : Values → List ℕ
set_records [] = end_record
set_records (e ∷ s) = value_record e.0 e.1 ++ set_records s

unfoldable pub sets_records : List Values → List ℕ
sets_records [] = []
sets_records (s ∷ l) = set_records s ++ sets_records l

-- R0 is (0, 0x4000, 0x4000), R1 another region: (-1, -1, 0)
unfoldable pub job_of : List Values → List ℕ
job_of l = axis_record R0 0 0x4000 0x4000 ++ (axis_record R1 0xC000 0xC000 0 ++ sets_records l)

-- ---- what is asked, and what is left

-- a mode, sets, and how much is lent for output, ids, map, log and origins
pub record Ask : Type 0 where
  pub mode : ℕ
  pub sets : List Values
  pub out : ℕ
  pub ids : ℕ
  pub map : ℕ
  pub log : ℕ
  pub origins : ℕ

pub record Left : Type 0 where
  pub answer : Built
  pub out : List ℕ
  pub ids : List ℕ
  pub map : List ℕ
  pub log : List ℕ
  pub origins : List ℕ
  pub work : List ℕ

-- what everything lent holds before, so where it stands below nothing was written
abbrev x : ℕ
x = 0xEE

abbrev full : ℕ → List ℕ
full n = replicate n x

-- a build of these bytes with this lent, and just so many pair records as there must be (they are zeros after it, whatever they held: Buffers `pairs-done`).
-- `answer_of` and `after` of such a call, said by the number of pair records, which are too many to write down
abbrev built_with : ℕ → List ℕ → Buffers → List ℕ → Left
built_with mode bytes old work =
    let o = job.outcome 1 mode bytes (length work) pair_records in
    let new = left_from 1 mode old o in
    record {
      answer = answer_from 1 mode (lengths old) o;
      out = new.out;
      ids = new.ids;
      map = new.map;
      log = new.log;
      origins = new.origins;
      work = work_left 1 mode bytes pair_records work;
    }

-- so a call with that many pair records answers and leaves
pub built-as : (mode : ℕ) (bytes : List ℕ) (old : Buffers) (work : List ℕ) (pairs : List Pair) → length pairs ≡ pair_records
    → (answer_of (lending 1 mode bytes work pairs old) ≡ (built_with mode bytes old work).answer)
    × ((after (lending 1 mode bytes work pairs old)).lent ≡ left_from 1 mode old (job.outcome 1 mode bytes (length work) pair_records))
    × ((after (lending 1 mode bytes work pairs old)).work ≡ (built_with mode bytes old work).work)
unfolding answer_of
built-as mode bytes old work pairs e = rw e (refl, refl, refl)

-- with one word of work more than is published
abbrev built : Ask → Left
built a =
    built_with a.mode (job_of a.sets) (buffers (full a.out) (full a.ids) (full a.map) (full a.log) (full a.origins))
    (full (suc (job_work 1 (job_of a.sets))))

abbrev ask : ℕ → List Values → ℕ → ℕ → ℕ → ℕ → ℕ → Ask
ask mode sets out ids map log origins = record { mode = mode; sets = sets; out = out; ids = ids; map = map; log = log; origins = origins }

-- store bytes, subtables, regions kept, distinct ids, N, merges, pairs weighed, modelled size before and after merging, forecast
abbrev counts : ℕ → ℕ → ℕ → ℕ → ℕ → ℕ → ℕ → ℕ → ℕ → ℕ → Report
counts bytes subtables regions ids groups merges weighed before after forecast = record {
  bytes = bytes;
  subtables = subtables;
  regions = regions;
  ids = ids;
  groups = groups;
  merges = merges;
  weighed = weighed;
  before = before;
  after = after;
  forecast = forecast;
}

-- done, with these counts, output, ids, map, log and origins; and all of so many words of work are zero
abbrev left : Report → List ℕ → List ℕ → List ℕ → List ℕ → List ℕ → ℕ → Left
left report out ids map log origins work = record { answer = Done report; out = out; ids = ids; map = map; log = log; origins = origins; work = replicate work 0 }

abbrev asks : List Ask
asks =
    -- P1: no sets
    ask 0 [] 14 1 1 1 1
    -- P2: the same in mode 1
    ∷ ask 1 [] 18 1 1 1 1
    -- P3: {R0:10}
    ∷ ask 0 (one R0 (plus 10) ∷ []) 33 2 2 1 3
    -- P4: {R0:0}
    ∷ ask 0 (one R0 (plus 0) ∷ []) 24 2 2 1 3
    -- P5: {R0:-128, R1:128}
    ∷ ask 0 (two R0 (less 128) R1 (plus 128) ∷ []) 43 2 2 1 3
    -- P6: {R0:127}, and another job: {R0:-129}
    ∷ ask 0 (one R0 (plus 127) ∷ []) 33 2 2 1 3
    ∷ ask 0 (one R0 (less 129) ∷ []) 34 2 2 1 3
    -- P7: {R0:100, R1:70000}
    ∷ ask 0 (two R0 (plus 100) R1 (plus 70000) ∷ []) 46 2 2 1 3
    -- P8: {R0:1}, {R1:1}
    ∷ ask 0 (one R0 (plus 1) ∷ one R1 (plus 1) ∷ []) 44 3 3 4 5
    -- P9: five sets on R0 and five on R1
    ∷ ask 0 (
    one R0 (plus 10) ∷ one R0 (plus 20) ∷ one R0 (plus 30) ∷ one R0 (plus 40) ∷ one R0 (plus 50)
    ∷ one R1 (less 1) ∷ one R1 (less 2) ∷ one R1 (less 3) ∷ one R1 (less 4) ∷ one R1 (less 5) ∷ []) 60 11 11 4 5
    -- P10: five and four
    ∷ ask 0 (
    one R0 (plus 10) ∷ one R0 (plus 20) ∷ one R0 (plus 30) ∷ one R0 (plus 40) ∷ one R0 (plus 50)
    ∷ one R1 (less 1) ∷ one R1 (less 2) ∷ one R1 (less 3) ∷ one R1 (less 4) ∷ []) 58 10 10 4 5
    -- P11: {R0:1} and {R0:1, R1:0}
    ∷ ask 0 (one R0 (plus 1) ∷ two R0 (plus 1) R1 (plus 0) ∷ []) 33 3 2 1 3
    -- P12: the empty set, {R0:10}
    ∷ ask 0 ([] ∷ one R0 (plus 10) ∷ []) 34 3 3 4 5
    ∷ []

unfoldable pub answers : List Left
answers = map built asks

pub examples : answers ≡
    -- P1: 12 bytes, nothing in the list
    left (counts 12 0 0 0 0 0 0 0 0 12)
    (0 ∷ 1 ∷ 0 ∷ 0 ∷ 0 ∷ 8 ∷ 0 ∷ 0
    ∷ 0 ∷ 1 ∷ 0 ∷ 0
    ∷ x ∷ x ∷ [])
    (x ∷ []) (x ∷ []) (x ∷ []) (x ∷ []) 75
    -- P2: 16 bytes, of which four are the offset 0
    ∷ left (counts 16 1 0 0 0 0 0 0 0 16)
    (0 ∷ 1 ∷ 0 ∷ 0 ∷ 0 ∷ 0x0C ∷ 0 ∷ 1 ∷ 0 ∷ 0 ∷ 0 ∷ 0
    ∷ 0 ∷ 1 ∷ 0 ∷ 0
    ∷ x ∷ x ∷ [])
    (x ∷ []) (x ∷ []) (x ∷ []) (x ∷ []) 75
    -- P3: 31 bytes; map word 0
    ∷ left (counts 31 1 1 1 1 0 0 13 13 31)
    (0 ∷ 1 ∷ 0 ∷ 0 ∷ 0 ∷ 0x0C ∷ 0 ∷ 1 ∷ 0 ∷ 0 ∷ 0 ∷ 0x16
    ∷ 0 ∷ 1 ∷ 0 ∷ 1 ∷ 0 ∷ 0 ∷ 0x40 ∷ 0 ∷ 0x40 ∷ 0
    ∷ 0 ∷ 1 ∷ 0 ∷ 0 ∷ 0 ∷ 1 ∷ 0 ∷ 0 ∷ 0x0A
    ∷ x ∷ x ∷ [])
    (0 ∷ x ∷ []) (0 ∷ x ∷ []) (x ∷ []) (0 ∷ 0 ∷ x ∷ []) 149
    -- P4: 22 bytes; the row has none, and no region is kept
    ∷ left (counts 22 1 0 1 1 0 0 10 10 22)
    (0 ∷ 1 ∷ 0 ∷ 0 ∷ 0 ∷ 0x0C ∷ 0 ∷ 1 ∷ 0 ∷ 0 ∷ 0 ∷ 0x10
    ∷ 0 ∷ 1 ∷ 0 ∷ 0
    ∷ 0 ∷ 1 ∷ 0 ∷ 0 ∷ 0 ∷ 0
    ∷ x ∷ x ∷ [])
    (0 ∷ x ∷ []) (0 ∷ x ∷ []) (x ∷ []) (0 ∷ 0 ∷ x ∷ []) 149
    -- P5: columns R1, R0; word count 1; row 0080 80
    ∷ left (counts 41 1 2 1 1 0 0 17 17 41)
    (0 ∷ 1 ∷ 0 ∷ 0 ∷ 0 ∷ 0x0C ∷ 0 ∷ 1 ∷ 0 ∷ 0 ∷ 0 ∷ 0x1C
    ∷ 0 ∷ 1 ∷ 0 ∷ 2 ∷ 0 ∷ 0 ∷ 0x40 ∷ 0 ∷ 0x40 ∷ 0 ∷ 0xC0 ∷ 0 ∷ 0xC0 ∷ 0 ∷ 0 ∷ 0
    ∷ 0 ∷ 1 ∷ 0 ∷ 1 ∷ 0 ∷ 2 ∷ 0 ∷ 1 ∷ 0 ∷ 0 ∷ 0 ∷ 0x80 ∷ 0x80
    ∷ x ∷ x ∷ [])
    (0 ∷ x ∷ []) (0 ∷ x ∷ []) (x ∷ []) (0 ∷ 0 ∷ x ∷ []) 186
    -- P6: word count 0, row 7F; word count 1, row FF7F
    ∷ left (counts 31 1 1 1 1 0 0 13 13 31)
    (0 ∷ 1 ∷ 0 ∷ 0 ∷ 0 ∷ 0x0C ∷ 0 ∷ 1 ∷ 0 ∷ 0 ∷ 0 ∷ 0x16
    ∷ 0 ∷ 1 ∷ 0 ∷ 1 ∷ 0 ∷ 0 ∷ 0x40 ∷ 0 ∷ 0x40 ∷ 0
    ∷ 0 ∷ 1 ∷ 0 ∷ 0 ∷ 0 ∷ 1 ∷ 0 ∷ 0 ∷ 0x7F
    ∷ x ∷ x ∷ [])
    (0 ∷ x ∷ []) (0 ∷ x ∷ []) (x ∷ []) (0 ∷ 0 ∷ x ∷ []) 149
    ∷ left (counts 32 1 1 1 1 0 0 14 14 32)
    (0 ∷ 1 ∷ 0 ∷ 0 ∷ 0 ∷ 0x0C ∷ 0 ∷ 1 ∷ 0 ∷ 0 ∷ 0 ∷ 0x16
    ∷ 0 ∷ 1 ∷ 0 ∷ 1 ∷ 0 ∷ 0 ∷ 0x40 ∷ 0 ∷ 0x40 ∷ 0
    ∷ 0 ∷ 1 ∷ 0 ∷ 1 ∷ 0 ∷ 1 ∷ 0 ∷ 0 ∷ 0xFF ∷ 0x7F
    ∷ x ∷ x ∷ [])
    (0 ∷ x ∷ []) (0 ∷ x ∷ []) (x ∷ []) (0 ∷ 0 ∷ x ∷ []) 149
    -- P7: word count 0x8001; row 00011170 0064
    ∷ left (counts 44 1 2 1 1 0 0 19 19 44)
    (0 ∷ 1 ∷ 0 ∷ 0 ∷ 0 ∷ 0x0C ∷ 0 ∷ 1 ∷ 0 ∷ 0 ∷ 0 ∷ 0x1C
    ∷ 0 ∷ 1 ∷ 0 ∷ 2 ∷ 0 ∷ 0 ∷ 0x40 ∷ 0 ∷ 0x40 ∷ 0 ∷ 0xC0 ∷ 0 ∷ 0xC0 ∷ 0 ∷ 0 ∷ 0
    ∷ 0 ∷ 1 ∷ 0x80 ∷ 1 ∷ 0 ∷ 2 ∷ 0 ∷ 1 ∷ 0 ∷ 0 ∷ 0 ∷ 1 ∷ 0x11 ∷ 0x70 ∷ 0 ∷ 0x64
    ∷ x ∷ x ∷ [])
    (0 ∷ x ∷ []) (0 ∷ x ∷ []) (x ∷ []) (0 ∷ 0 ∷ x ∷ []) 186
    -- P8: 42 bytes; one merge, which gains 8; the second set's row is first
    ∷ left (counts 42 1 2 2 2 1 1 26 18 42)
    (0 ∷ 1 ∷ 0 ∷ 0 ∷ 0 ∷ 0x0C ∷ 0 ∷ 1 ∷ 0 ∷ 0 ∷ 0 ∷ 0x1C
    ∷ 0 ∷ 1 ∷ 0 ∷ 2 ∷ 0 ∷ 0 ∷ 0x40 ∷ 0 ∷ 0x40 ∷ 0 ∷ 0xC0 ∷ 0 ∷ 0xC0 ∷ 0 ∷ 0 ∷ 0
    ∷ 0 ∷ 2 ∷ 0 ∷ 0 ∷ 0 ∷ 2 ∷ 0 ∷ 0 ∷ 0 ∷ 1 ∷ 0 ∷ 1 ∷ 1 ∷ 0
    ∷ x ∷ x ∷ [])
    (0 ∷ 1 ∷ x ∷ []) (1 ∷ 0 ∷ x ∷ []) (0 ∷ 1 ∷ 8 ∷ x ∷ []) (0 ∷ 0 ∷ 1 ∷ 0 ∷ x ∷ []) 223
    -- P9: gain 0, two subtables
    ∷ left (counts 58 2 2 10 2 0 1 34 34 58)
    (0 ∷ 1 ∷ 0 ∷ 0 ∷ 0 ∷ 0x10 ∷ 0 ∷ 2 ∷ 0 ∷ 0 ∷ 0 ∷ 0x20 ∷ 0 ∷ 0 ∷ 0 ∷ 0x2D
    ∷ 0 ∷ 1 ∷ 0 ∷ 2 ∷ 0 ∷ 0 ∷ 0x40 ∷ 0 ∷ 0x40 ∷ 0 ∷ 0xC0 ∷ 0 ∷ 0xC0 ∷ 0 ∷ 0 ∷ 0
    ∷ 0 ∷ 5 ∷ 0 ∷ 0 ∷ 0 ∷ 1 ∷ 0 ∷ 0 ∷ 0x0A ∷ 0x14 ∷ 0x1E ∷ 0x28 ∷ 0x32
    ∷ 0 ∷ 5 ∷ 0 ∷ 0 ∷ 0 ∷ 1 ∷ 0 ∷ 1 ∷ 0xFB ∷ 0xFC ∷ 0xFD ∷ 0xFE ∷ 0xFF
    ∷ x ∷ x ∷ [])
    (0 ∷ 1 ∷ 2 ∷ 3 ∷ 4 ∷ 5 ∷ 6 ∷ 7 ∷ 8 ∷ 9 ∷ x ∷ []) (0 ∷ 1 ∷ 2 ∷ 3 ∷ 4 ∷ 0x1_0004 ∷ 0x1_0003 ∷ 0x1_0002 ∷ 0x1_0001 ∷ 0x1_0000 ∷ x ∷ []) (x ∷ x ∷ x ∷ x ∷ []) (0 ∷ 0 ∷ 1 ∷ 1 ∷ x ∷ []) 815
    -- P10: gain 1, one subtable
    ∷ left (counts 56 1 2 9 2 1 1 33 32 56)
    (0 ∷ 1 ∷ 0 ∷ 0 ∷ 0 ∷ 0x0C ∷ 0 ∷ 1 ∷ 0 ∷ 0 ∷ 0 ∷ 0x1C
    ∷ 0 ∷ 1 ∷ 0 ∷ 2 ∷ 0 ∷ 0 ∷ 0x40 ∷ 0 ∷ 0x40 ∷ 0 ∷ 0xC0 ∷ 0 ∷ 0xC0 ∷ 0 ∷ 0 ∷ 0
    ∷ 0 ∷ 9 ∷ 0 ∷ 0 ∷ 0 ∷ 2 ∷ 0 ∷ 0 ∷ 0 ∷ 1 ∷ 0 ∷ 0xFC ∷ 0 ∷ 0xFD ∷ 0 ∷ 0xFE ∷ 0 ∷ 0xFF ∷ 0x0A ∷ 0 ∷ 0x14 ∷ 0 ∷ 0x1E ∷ 0 ∷ 0x28 ∷ 0 ∷ 0x32 ∷ 0
    ∷ x ∷ x ∷ [])
    (0 ∷ 1 ∷ 2 ∷ 3 ∷ 4 ∷ 5 ∷ 6 ∷ 7 ∷ 8 ∷ x ∷ []) (4 ∷ 5 ∷ 6 ∷ 7 ∷ 8 ∷ 3 ∷ 2 ∷ 1 ∷ 0 ∷ x ∷ []) (0 ∷ 1 ∷ 1 ∷ x ∷ []) (0 ∷ 0 ∷ 1 ∷ 0 ∷ x ∷ []) 741
    -- P11: both id 0
    ∷ left (counts 31 1 1 1 1 0 0 13 13 31)
    (0 ∷ 1 ∷ 0 ∷ 0 ∷ 0 ∷ 0x0C ∷ 0 ∷ 1 ∷ 0 ∷ 0 ∷ 0 ∷ 0x16
    ∷ 0 ∷ 1 ∷ 0 ∷ 1 ∷ 0 ∷ 0 ∷ 0x40 ∷ 0 ∷ 0x40 ∷ 0
    ∷ 0 ∷ 1 ∷ 0 ∷ 0 ∷ 0 ∷ 1 ∷ 0 ∷ 0 ∷ 1
    ∷ x ∷ x ∷ [])
    (0 ∷ 0 ∷ x ∷ []) (0 ∷ x ∷ []) (x ∷ []) (0 ∷ 0 ∷ x ∷ []) 260
    -- P12: a gain of 9; the row of zero is first
    ∷ left (counts 32 1 1 2 2 1 1 23 14 32)
    (0 ∷ 1 ∷ 0 ∷ 0 ∷ 0 ∷ 0x0C ∷ 0 ∷ 1 ∷ 0 ∷ 0 ∷ 0 ∷ 0x16
    ∷ 0 ∷ 1 ∷ 0 ∷ 1 ∷ 0 ∷ 0 ∷ 0x40 ∷ 0 ∷ 0x40 ∷ 0
    ∷ 0 ∷ 2 ∷ 0 ∷ 0 ∷ 0 ∷ 1 ∷ 0 ∷ 0 ∷ 0 ∷ 0x0A
    ∷ x ∷ x ∷ [])
    (0 ∷ 1 ∷ x ∷ []) (0 ∷ 1 ∷ x ∷ []) (0 ∷ 1 ∷ 9 ∷ x ∷ []) (0 ∷ 0 ∷ 1 ∷ 0 ∷ x ∷ []) 186
    ∷ []
unfolding answers set_records sets_records job_of weigh all_below tabulate be bytes_of compared then_by is_most fits is_zero signed twos word value insert sorted keep width_of cost_of cost_of_row columns overhead join shapes.order_of_widths shapes.order group_cost joined gain word_of same_set sets.by_words sets.part_none sets.part_head sets.parting sets.order_of sets.order place with_set ids_from distinct_from groups.shape_of groups.put_shape groups.with_shape groups.groups_from groups.groups_of cover_from rule.keep_out rule.outs rule.pair_with rule.keep_pair rule.pairs rule.better rule.lead rule.best rule.worth rule.if_worth rule.choice rule.entry rule.merge rule.follow rule.step rule.run rule.number rule.start rule.merged rule.total words add_if of_width columns_of word_count bytes_for_width word_in cells_of row_of join_all rows.run_count_for store.runs_of store.all_runs store.in_run store.id_words store.names store.slot_of store.made_of stores.table_bytes stores.slot_bytes stores.offsets stores.list_bytes stores.place store.store_of column_start store.run_bytes store.forecast_of stored must_be_zero first_not_zero first_wrong_byte value_as_word first_failed published_work regions_at_head axis_run early_refusal in_turn form_refusal value_no end_refusal said.coordinates said.region_list said.same_region said.like said.first_like said.has said.with_use said.index_in said.with_entry said.with_value job.unless job.after_value job.after_end job.value_step job.end_step job.regions_only job.said_at job.axes_before job.is_late job.kind_step job.step job.ended_sets job.ended job.follow job.records_from job.outcome_from job.outcome work_left packed.no_later packed.dense packed.same_shape packed.number_of packed.is_among packed.belongs packed.final_of packed.is_ahead packed.home_of packed.origins_of packed.finals_of packed.shared packed.one_cost packed.own store_for regions_kept origin_words late_no report_of late_answer written buffers_left region_bytes coords_in_use packed_of answer_from left_from
examples = refl
