-- Small jobs of one axis, computed: three regions, of which region 1 has the coordinates of region 0. Assumes nothing.
use mathlib.Core.List.{List, [], ◌∷◌, ◌++◌}
use mathlib.Core.Path.{◌≡◌, refl}
use Prim.Native.Nat.{ℕ, ◌+◌}
use Rattle.laws.specs.Bounded.{all_below}
use Rattle.laws.specs.Bytes.{be}
use Rattle.laws.specs.Signed.{word, signed, zero_word}
use Rattle.sets.specs.Order.{by_words, part_none, part_head, parting}
use Rattle.said.specs.Records.{must_be_zero, first_not_zero, first_wrong_byte, value_as_word}
use Rattle.said.specs.Refusals.{first_failed, published_work, early_refusal, in_turn, form_refusal, value_no, end_refusal}
use Rattle.said.specs.Work.{axis_run, regions_at_head}
use Rattle.said.specs.Sets.{coordinates, region_list, same_region, like, first_like, has, with_use, index_in, with_entry, with_value}
use Rattle.said.specs.Job.{unless, after_value, after_end, value_step, end_step, regions_only, said_at, axes_before, is_late, kind_step, step, ended, ended_sets, follow, records_from, outcome_from, outcome}
use Rattle.parting.specs.Answers.{Parted}
use Rattle.parting.specs.Answers.{Refused, Equal, Smaller, Larger}
use Rattle.parting.specs.Part.{first_region_named, user_of, named, parted_in, parted_of, part_of}

abbrev axis_record : ℕ → ℕ → List ℕ
axis_record region peak = 1 ∷ region ∷ 0 ∷ 0 ∷ 0 ∷ 0 ∷ peak ∷ 0 ∷ 64 ∷ 0 ∷ 0 ∷ 0 ∷ []

abbrev value_record : ℕ → ℕ → List ℕ
value_record region v = 2 ∷ region ∷ 0 ∷ 0 ∷ 0 ∷ 0 ∷ 0 ∷ v ∷ 0 ∷ 0 ∷ 0 ∷ 0 ∷ []

abbrev end_record : List ℕ
end_record = 3 ∷ 0 ∷ 0 ∷ 0 ∷ 0 ∷ 0 ∷ 0 ∷ 0 ∷ 0 ∷ 0 ∷ 0 ∷ 0 ∷ []

-- the sets {2: 4, 1: 5}, {0: 7, 2: 4}, {1: 5, 2: 4}, by the job's numbers: region 2 is used first, and region 1 before region 0
abbrev job : List ℕ
job =
    axis_record 0 64 ++ (axis_record 1 64 ++ (axis_record 2 32
    ++ (value_record 2 4 ++ (value_record 1 5 ++ (end_record
    ++ (value_record 0 7 ++ (value_record 2 4 ++ (end_record
    ++ (value_record 1 5 ++ (value_record 2 4 ++ end_record))))))))))

-- at index 1, by region 1 of the job, though region 0 is the first like it
answers : List Parted
answers =
    part_of 1 job 0 1 4096
    ∷ part_of 1 job 1 2 4096
    ∷ part_of 1 job 0 2 4096
    ∷ part_of 1 job 3 0 4096
    ∷ part_of 1 job 2 3 4096
    ∷ part_of 1 (job ++ value_record 0 1) 9 9 4096
    ∷ part_of 1 job 9 9 455
    ∷ []

worked : answers ≡
    Smaller 1 1 (zero_word + 5) (zero_word + 7)
    ∷ Larger 1 1 (zero_word + 7) (zero_word + 5)
    ∷ Equal
    ∷ Refused 64 0
    ∷ Refused 64 0
    ∷ Refused 8 13
    ∷ Refused 4 0
    ∷ []
unfolding answers parted_of parted_in named user_of first_region_named parting part_head part_none by_words outcome outcome_from records_from follow ended ended_sets step kind_step is_late axes_before said_at regions_only end_step value_step after_end after_value unless with_value with_entry index_in with_use has first_like like same_region region_list coordinates end_refusal value_no form_refusal in_turn early_refusal published_work regions_at_head axis_run first_failed value_as_word first_wrong_byte first_not_zero must_be_zero word signed be all_below
worked = refl
