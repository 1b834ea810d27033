-- Small jobs of one axis and one region, read now and then. Assumes nothing.
use mathlib.Core.List.{List, [], ◌∷◌, ◌++◌}
use mathlib.Core.Path.{◌≡◌, refl}
use Prim.Native.Nat.{ℕ, ◌+◌}
use lib.ListN.{set}
use Rattle.laws.specs.Bytes.{be}
use Rattle.laws.specs.Signed.{word, signed, zero_word}
use Rattle.said.specs.Records.{must_be_zero, first_not_zero, first_wrong_byte, value_as_word}
use Rattle.said.specs.Refusals.{first_failed, in_turn, form_refusal, value_no, end_refusal}
use Rattle.said.specs.Sets.{coordinates, region_list, same_region, like, first_like, has, with_use, index_in, with_entry, with_value}
use Rattle.said.specs.Job.{Outcome, refused, fine, unless, after_value, after_end, value_step, end_step, regions_only, said_at, axes_before, is_late, kind_step, step, ended, ended_sets, follow, records_from}
use Rattle.one_byte.specs.OneByte.{one_zeros, one_wrong, one_turn, one_form, one_value_no, one_value, one_kind, one_step, one_records}
use Rattle.one_byte.specs.Together.{now_read, then_read}

abbrev axis_record : List ℕ
axis_record = 1 ∷ 0 ∷ 0 ∷ 0 ∷ 0 ∷ 0 ∷ 64 ∷ 0 ∷ 64 ∷ 0 ∷ 0 ∷ 0 ∷ []

abbrev value_record : List ℕ
value_record = 2 ∷ 0 ∷ 0 ∷ 0 ∷ 0 ∷ 0 ∷ 0 ∷ 5 ∷ 0 ∷ 0 ∷ 0 ∷ 0 ∷ []

abbrev end_record : List ℕ
end_record = 3 ∷ 0 ∷ 0 ∷ 0 ∷ 0 ∷ 0 ∷ 0 ∷ 0 ∷ 0 ∷ 0 ∷ 0 ∷ 0 ∷ []

both : List ℕ → List Outcome
both job = now_read 1 0 job 3 ∷ then_read 1 0 job 3 ∷ []

abbrev taken : Outcome
taken = fine (record { regions = (0 ∷ 16384 ∷ 16384 ∷ []) ∷ []; used = 0 ∷ []; sets = ((0, zero_word + 5) ∷ []) ∷ []; values = 1; named = []; begun = [] })

-- One that is taken; byte 3 of its value record, alone, behind byte 2 and before byte 8; of its axis record; of its end record
worked : both (axis_record ++ (value_record ++ end_record)) ∷ both (axis_record ++ (set value_record 3 1 ++ end_record))
    ∷ both (axis_record ++ (set (set value_record 3 1) 2 1 ++ end_record)) ∷ both (axis_record ++ (set (set value_record 3 1) 8 1 ++ end_record))
    ∷ both (set axis_record 3 1 ++ (value_record ++ end_record)) ∷ both (axis_record ++ (value_record ++ set end_record 3 1)) ∷ []
    ≡ (taken ∷ taken ∷ []) ∷ (refused 6 1 ∷ refused 31 1 ∷ [])
    ∷ (refused 31 1 ∷ refused 31 1 ∷ []) ∷ (refused 31 1 ∷ refused 31 1 ∷ [])
    ∷ (refused 32 0 ∷ refused 31 0 ∷ []) ∷ (refused 31 2 ∷ refused 31 2 ∷ []) ∷ []
unfolding both records_from follow ended ended_sets step kind_step is_late axes_before said_at regions_only end_step value_step after_end after_value unless with_value with_entry index_in with_use has first_like like same_region region_list coordinates end_refusal value_no form_refusal in_turn first_failed value_as_word first_wrong_byte first_not_zero must_be_zero word signed be one_zeros one_wrong one_turn one_form one_value_no one_value one_kind one_step one_records
worked = refl
