-- Two jobs of one axis that say the same three sets, in another order and one of them twice: what they are asked can be met, their ids differ, and the
-- theorem has what they share. Assumes nothing.
use mathlib.Core.Path.{◌≡◌, refl}
use mathlib.Core.Bool.{Bool, true, ◌&&◌}
use mathlib.Core.Logic.{⊎_elim}
use mathlib.Core.List.Memᴰ
use mathlib.Core.List.{List, [], ◌∷◌, ◌++◌, Memᴰ}
use Prim.Native.Nat.{ℕ, zero, suc, ◌+◌}
use native.Mathlib.Omega.{arith}
use lib.Dec.{ltb}
use lib.ListN.{length, replicate, length-replicate}
use borrow.Author.Tests.{ltb-true}
use Rattle.laws.specs.Bag.{weigh}
use Rattle.laws.specs.Bounded.{tabulate}
use Rattle.laws.specs.Bytes.{be, bytes_of}
use Rattle.laws.specs.Order.{compared, then_by, is_most}
use Rattle.laws.specs.Signed.{fits, is_zero, signed, twos, word, value, zero_word}
use Rattle.laws.specs.Sorting.{insert, sorted, keep}
use Rattle.laws.specs.Joining.{join_all}
use Rattle.laws.proofs.Cases.{and-true}
use Rattle.shapes.specs.Width.{width_of, cost_of}
use Rattle.shapes.specs.Shape.{cost_of_row, columns, overhead, join}
use Rattle.shapes.specs.Order as shapes
use Rattle.shapes.specs.Group.{group_cost, joined, gain}
use Rattle.sets.specs.Set.{Set, word_of, same_set}
use Rattle.sets.specs.Order as sets
use Rattle.sets.specs.Ids.{place, with_set, ids_from, distinct_from}
use Rattle.groups.specs.Groups as groups
use Rattle.rule.specs.Model as rule
use Rattle.rule.specs.Told.{words}
use Rattle.reader.specs.Store.{column_start}
use Rattle.rows.specs.Columns.{add_if, of_width, columns_of, word_count, bytes_for_width}
use Rattle.rows.specs.Row.{word_in, cells_of, row_of}
use Rattle.rows.specs.Subtable as rows
use Rattle.stores.specs.Stores as stores
use Rattle.store.specs.Placing as store
use Rattle.store.specs.Placing.{stored}
use Rattle.said.specs.Records.{must_be_zero, first_not_zero, first_wrong_byte, value_as_word}
use Rattle.said.specs.Refusals.{first_failed, published_work, pair_records, early_refusal, in_turn, form_refusal, value_no, end_refusal}
use Rattle.said.specs.Work.{axis_run, regions_at_head}
use Rattle.said.specs.Sets as said
use Rattle.said.specs.Job as job
use Rattle.said.proofs.SoundLaws.{Bytes}
use Rattle.encoder.specs.Packed as packed
use Rattle.finishing.specs.declared.answers.Report.{Report}
use Rattle.finishing.specs.Answers.{Done}
use Rattle.pairs.specs.declared.Pair.{Pair}
use Rattle.pairs.specs.LentQueue.{none}
use Rattle.finishing.specs.Buffers.{Buffers, buffers, lengths}
use Rattle.finishing.specs.Late.{store_for, regions_kept, origin_words, late_no, report_of, late_answer, written, buffers_left}
use Rattle.call.specs.Lending.{Lending, lending}
use Rattle.call.specs.Build.{region_bytes, coords_in_use, packed_of, answer_from, left_from, outcome_of, answer_of}
use Rattle.unordered.specs.Same.{SameSets, SameBuild}
use Rattle.unordered.proofs.Unordered.{unordered}

-- ---- jobs

abbrev axis_record : ℕ → ℕ → List ℕ
axis_record region peak = 1 ∷ region ∷ 0 ∷ 0 ∷ 0 ∷ 0 ∷ peak ∷ 0 ∷ 64 ∷ 0 ∷ 0 ∷ 0 ∷ []

-- a value of two bytes
abbrev value_record : ℕ → ℕ → ℕ → List ℕ
value_record region high low = 2 ∷ region ∷ 0 ∷ 0 ∷ 0 ∷ 0 ∷ high ∷ low ∷ 0 ∷ 0 ∷ 0 ∷ 0 ∷ []

abbrev end_record : List ℕ
end_record = 3 ∷ 0 ∷ 0 ∷ 0 ∷ 0 ∷ 0 ∷ 0 ∷ 0 ∷ 0 ∷ 0 ∷ 0 ∷ 0 ∷ []

-- {R0:1, R1:1}, {R0:300}, {}
abbrev job_a : List ℕ
job_a =
    axis_record 0 64 ++ (axis_record 1 32
    ++ (value_record 0 0 1 ++ (value_record 1 0 1 ++ (end_record
    ++ (value_record 0 1 44 ++ (end_record
    ++ end_record))))))

-- {R0:300}, {}, {R0:1, R1:1}, {R0:300}
abbrev job_b : List ℕ
job_b =
    axis_record 0 64 ++ (axis_record 1 32
    ++ (value_record 0 1 44 ++ (end_record
    ++ (end_record
    ++ (value_record 0 0 1 ++ (value_record 1 0 1 ++ (end_record
    ++ (value_record 0 1 44 ++ end_record))))))))

abbrev lent_a : Buffers
lent_a = buffers (replicate 64 0) (replicate 3 0) (replicate 3 0) (replicate 6 0) (replicate 6 0)

abbrev lent_b : Buffers
lent_b = buffers (replicate 60 9) (replicate 5 9) (replicate 4 9) (replicate 7 9) (replicate 7 9)

-- with work and pair records of these lengths, whatever they hold
abbrev words_lent : ℕ
words_lent = 4096

-- ---- what they say

abbrev one : Set
one = (0, zero_word + 1) ∷ (1, zero_word + 1) ∷ []

abbrev wide : Set
wide = (0, zero_word + 300) ∷ []

abbrev says : List Set → ℕ → job.Said
says l n = record {
  regions = (0 ∷ 16384 ∷ 16384 ∷ []) ∷ (0 ∷ 8192 ∷ 16384 ∷ []) ∷ [];
  used = 0 ∷ 1 ∷ [];
  sets = l;
  values = n;
  named = [];
  begun = [];
}

abbrev s : job.Said
s = says (one ∷ wide ∷ [] ∷ []) 3

abbrev t : job.Said
t = says (wide ∷ [] ∷ one ∷ wide ∷ []) 4

abbrev outcome_a : job.Outcome
outcome_a = job.outcome 1 0 job_a words_lent pair_records

abbrev outcome_b : job.Outcome
outcome_b = job.outcome 1 0 job_b words_lent pair_records

said-both : (outcome_a ≡ job.fine s) × (outcome_b ≡ job.fine t)
unfolding be signed word must_be_zero first_not_zero first_wrong_byte value_as_word first_failed published_work regions_at_head axis_run early_refusal in_turn form_refusal value_no end_refusal said.coordinates said.region_list said.same_region said.like said.first_like said.has said.with_use said.index_in said.with_entry said.with_value job.unless job.after_value job.after_end job.value_step job.end_step job.regions_only job.said_at job.axes_before job.is_late job.kind_step job.step job.ended_sets job.ended job.follow job.records_from job.outcome_from job.outcome
said-both = (refl, refl)

there : (x : Set) → Memᴰ x s.sets → Memᴰ x t.sets
there x m = ⊎_elim
    (λ e. Memᴰ.tail (Memᴰ.tail (Memᴰ.head e)))
    (λ n. ⊎_elim
    (λ e. Memᴰ.head e)
    (λ o. ⊎_elim (λ e. Memᴰ.tail (Memᴰ.head e)) (λ p. absurd (Memᴰ.not-nil p)) (Memᴰ.cases_cons o))
    (Memᴰ.cases_cons n))
    (Memᴰ.cases_cons m)

back : (x : Set) → Memᴰ x t.sets → Memᴰ x s.sets
back x m = ⊎_elim
    (λ e. Memᴰ.tail (Memᴰ.head e))
    (λ n. ⊎_elim
    (λ e. Memᴰ.tail (Memᴰ.tail (Memᴰ.head e)))
    (λ o. ⊎_elim
    (λ e. Memᴰ.head e)
    (λ p. ⊎_elim (λ e. Memᴰ.tail (Memᴰ.head e)) (λ q. absurd (Memᴰ.not-nil q)) (Memᴰ.cases_cons p))
    (Memᴰ.cases_cons o))
    (Memᴰ.cases_cons n))
    (Memᴰ.cases_cons m)

same : SameSets s t
same = record { regions-same = unfold coords_in_use in refl; there = there; back = back }

-- ---- they are bytes

abbrev all_low : List ℕ → Bool
all_low [] = true
all_low (x ∷ l) = ltb x 256 && all_low l

bytes-of : (l : List ℕ) → all_low l ≡ true → Bytes l
bytes-of [] h k = omega arith
bytes-of (x ∷ l) h zero = ltb-true x 256 (and-true (ltb x 256) (all_low l) h).0
bytes-of (x ∷ l) h (suc k) = bytes-of l (and-true (ltb x 256) (all_low l) h).1 k

-- ---- both are done, with the same counts; {R0:1, R1:1} is id 0 of the one job and id 2 of the other

abbrev c : Report
c = record { bytes = 47; subtables = 1; regions = 2; ids = 3; groups = 3; merges = 2; weighed = 4; before = 40; after = 23; forecast = 47 }

abbrev left_a : Buffers
left_a = left_from 1 0 lent_a outcome_a

abbrev left_b : Buffers
left_b = left_from 1 0 lent_b outcome_b

abbrev Answers : Type 0
Answers =
    (answer_from 1 0 (lengths lent_a) outcome_a ≡ Done c) × (answer_from 1 0 (lengths lent_b) outcome_b ≡ Done c)
    × (left_a.ids ≡ 0 ∷ 1 ∷ 2 ∷ []) × (left_b.ids ≡ 0 ∷ 1 ∷ 2 ∷ 0 ∷ 9 ∷ [])
    × (left_a.map ≡ 1 ∷ 2 ∷ 0 ∷ []) × (left_b.map ≡ 2 ∷ 0 ∷ 1 ∷ 9 ∷ [])
    × (left_a.log ≡ 1 ∷ 2 ∷ 10 ∷ 0 ∷ 3 ∷ 7 ∷ []) × (left_b.log ≡ 1 ∷ 2 ∷ 10 ∷ 0 ∷ 3 ∷ 7 ∷ 9 ∷ [])
    × (left_a.origins ≡ 0 ∷ 0 ∷ 1 ∷ 0 ∷ 2 ∷ 0 ∷ []) × (left_b.origins ≡ 0 ∷ 0 ∷ 1 ∷ 0 ∷ 2 ∷ 0 ∷ 9 ∷ [])

answers : Answers
unfolding weigh tabulate be bytes_of compared then_by is_most fits is_zero signed twos word value insert sorted keep width_of cost_of cost_of_row columns overhead join shapes.order_of_widths shapes.order group_cost joined gain word_of same_set sets.by_words sets.part_none sets.part_head sets.parting sets.order_of sets.order place with_set ids_from distinct_from groups.shape_of groups.put_shape groups.with_shape groups.groups_from groups.groups_of rule.keep_out rule.outs rule.pair_with rule.keep_pair rule.pairs rule.better rule.lead rule.best rule.worth rule.if_worth rule.choice rule.entry rule.merge rule.follow rule.step rule.run rule.number rule.start rule.merged rule.total words add_if of_width columns_of word_count bytes_for_width word_in cells_of row_of join_all rows.run_count_for store.runs_of store.all_runs store.in_run store.id_words store.names store.slot_of store.made_of stores.table_bytes stores.slot_bytes stores.offsets stores.list_bytes stores.place store.store_of column_start store.run_bytes store.forecast_of stored must_be_zero first_not_zero first_wrong_byte value_as_word first_failed published_work regions_at_head axis_run early_refusal in_turn form_refusal value_no end_refusal said.coordinates said.region_list said.same_region said.like said.first_like said.has said.with_use said.index_in said.with_entry said.with_value job.unless job.after_value job.after_end job.value_step job.end_step job.regions_only job.said_at job.axes_before job.is_late job.kind_step job.step job.ended_sets job.ended job.follow job.records_from job.outcome_from job.outcome packed.no_later packed.dense packed.same_shape packed.number_of packed.is_among packed.belongs packed.final_of packed.is_ahead packed.home_of packed.origins_of packed.finals_of packed.shared store_for regions_kept origin_words late_no report_of late_answer written buffers_left region_bytes coords_in_use packed_of answer_from left_from
answers = (refl, refl, refl, refl, refl, refl, refl, refl, refl, refl)

module _ (work : List ℕ) (pairs : List Pair) (w : length work ≡ words_lent) (p : length pairs ≡ pair_records) where
  abbrev a : Lending
  a = lending 1 0 job_a work pairs lent_a

  abbrev b : Lending
  b = lending 1 0 job_b work pairs lent_b

  said-a : outcome_of a ≡ job.fine s
  said-a = rw (w, p) said-both.0

  said-b : outcome_of b ≡ job.fine t
  said-b = rw (w, p) said-both.1

  done-a : answer_of a ≡ Done c
  unfolding answer_of
  done-a = rw (w, p) answers.0

  done-b : answer_of b ≡ Done c
  unfolding answer_of
  done-b = rw (w, p) answers.1

  pub worked : SameBuild a b s t c c
  worked = unordered a b s t c c refl refl refl (bytes-of job_a refl) (bytes-of job_b refl) said-a said-b same done-a done-b

-- such work and pair records are there
pub worked-there : SameBuild (lending 1 0 job_a (replicate words_lent 0) (replicate pair_records none) lent_a) (lending 1 0 job_b (replicate words_lent 0) (replicate pair_records none) lent_b) s t c c
worked-there = worked (replicate words_lent 0) (replicate pair_records none) (length-replicate {A = ℕ} words_lent 0) (length-replicate pair_records none)
