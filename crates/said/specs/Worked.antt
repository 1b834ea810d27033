-- Small jobs, computed.
use Rattle.std.specs.Prelude.{List, [], ◌∷◌, ◌++◌, ◌≡◌, refl, ℕ, ◌+◌, set}
use Rattle.laws.specs.Bytes.{be}
use Rattle.laws.specs.Signed.{word, signed, zero_word}
use Rattle.sets.specs.Set.{Set}
use Rattle.said.specs.Records.{must_be_zero, first_not_zero, first_wrong_byte, value_as_word}
use Rattle.said.specs.Refusals.{pair_records, first_failed, published_work, building_work, early_refusal, in_turn, form_refusal, value_no, end_refusal}
use Rattle.said.specs.Work.{axis_run, regions_at_head}
use Rattle.said.specs.Sets.{Region, coordinates, region_list, same_region, like, first_like, has, with_use, index_in, with_entry, with_value}
use Rattle.said.specs.Job.{Outcome, refused, fine, unless, after_value, after_end, value_step, end_step, regions_only, said_at, axes_before, is_late, kind_step, step, ended, ended_sets, follow, records_from, outcome_from, outcome}

-- an axis record of start 0, a value record with a value of one byte's size from 0 on, an end record
abbrev axis_record : ℕ → ℕ → ℕ → List ℕ
axis_record region axis peak = 1 ∷ region ∷ axis ∷ 0 ∷ 0 ∷ 0 ∷ peak ∷ 0 ∷ 64 ∷ 0 ∷ 0 ∷ 0 ∷ []

abbrev value_record : ℕ → ℕ → List ℕ
value_record region v = 2 ∷ region ∷ 0 ∷ 0 ∷ 0 ∷ 0 ∷ 0 ∷ v ∷ 0 ∷ 0 ∷ 0 ∷ 0 ∷ []

abbrev end_record : List ℕ
end_record = 3 ∷ 0 ∷ 0 ∷ 0 ∷ 0 ∷ 0 ∷ 0 ∷ 0 ∷ 0 ∷ 0 ∷ 0 ∷ 0 ∷ []

-- two regions of one axis
abbrev two : List ℕ → List ℕ
two rest = axis_record 0 0 64 ++ (axis_record 1 0 32 ++ rest)

-- two regions of the same coordinates
abbrev twins : List ℕ → List ℕ
twins rest = axis_record 0 0 64 ++ (axis_record 1 0 64 ++ rest)

abbrev r₀ : List ℕ
r₀ = 0 ∷ 16384 ∷ 16384 ∷ []

abbrev r₁ : List ℕ
r₁ = 0 ∷ 8192 ∷ 16384 ∷ []

-- the word of a value from 0 on
abbrev up : ℕ → ℕ
up v = zero_word + v

-- a job of one axis, mode 0, with work enough, and just so many pairs
abbrev one : List ℕ → Outcome
one job = outcome 1 0 job 4096 pair_records

abbrev says : List Region → List ℕ → List Set → ℕ → Outcome
says regions used sets values = fine (record { regions = regions; used = used; sets = sets; values = values; named = []; begun = [] })

answers : List Outcome
answers =
    one []
    ∷ one (two (value_record 0 10 ++ end_record))
    ∷ one (two (value_record 0 1 ++ (end_record ++ (value_record 0 1 ++ (value_record 1 0 ++ end_record)))))
    ∷ one (two (value_record 1 5 ++ (value_record 0 7 ++ (end_record ++ (value_record 0 3 ++ (value_record 1 4 ++ end_record))))))
    ∷ one (twins (value_record 1 5 ++ (end_record ++ (value_record 0 5 ++ end_record))))
    ∷ one (twins (value_record 0 5 ++ (value_record 1 0 ++ end_record)))
    ∷ one (two (end_record ++ axis_record 2 0 64))
    ∷ one (two (value_record 0 5 ++ axis_record 3 0 64))
    ∷ one (axis_record 1 0 64)
    ∷ one (two (value_record 2 5 ++ end_record))
    ∷ one (two (set (value_record 0 5) 3 1 ++ end_record))
    ∷ one (two (value_record 0 5))
    ∷ outcome 2 0 (axis_record 0 0 64) 4096 pair_records
    ∷ outcome 2 0 (axis_record 0 0 64 ++ end_record) 4096 pair_records
    ∷ outcome 2 0 (axis_record 0 0 64 ++ (axis_record 0 1 64 ++ (end_record ++ axis_record 1 0 64))) 4096 pair_records
    ∷ outcome 2 0 (axis_record 0 0 64 ++ (axis_record 0 1 64 ++ (end_record ++ axis_record 0 1 64))) 4096 pair_records
    ∷ outcome 1 1 end_record 31 pair_records
    ∷ outcome 1 1 end_record 32 pair_records
    ∷ outcome 1 1 end_record 32 1048575
    ∷ outcome 1 1 (1 ∷ []) 4096 0
    ∷ outcome 64 2 [] 0 0
    ∷ outcome 65 2 [] 0 0
    ∷ []

-- no sets; a value; P11, whose two sets are equal; regions numbered by first use; equal regions are one, and may not stand in one set; then
-- the refusals
worked : answers ≡
    says [] [] [] 0
    ∷ says (r₀ ∷ r₁ ∷ []) (0 ∷ []) (((0, up 10) ∷ []) ∷ []) 1
    ∷ says (r₀ ∷ r₁ ∷ []) (0 ∷ 1 ∷ []) (((0, up 1) ∷ []) ∷ ((0, up 1) ∷ []) ∷ []) 3
    ∷ says (r₀ ∷ r₁ ∷ []) (1 ∷ 0 ∷ []) (((0, up 5) ∷ (1, up 7) ∷ []) ∷ ((0, up 4) ∷ (1, up 3) ∷ []) ∷ []) 4
    ∷ says (r₀ ∷ r₀ ∷ []) (0 ∷ []) (((0, up 5) ∷ []) ∷ ((0, up 5) ∷ []) ∷ []) 2
    ∷ refused 7 3
    ∷ refused 33 3
    ∷ refused 32 3
    ∷ refused 32 0
    ∷ refused 6 2
    ∷ refused 6 2
    ∷ refused 8 3
    ∷ refused 8 1
    ∷ refused 34 1
    ∷ refused 33 3
    ∷ refused 32 3
    ∷ refused 4 0
    ∷ says [] [] ([] ∷ []) 0
    ∷ refused 4 0
    ∷ refused 3 0
    ∷ refused 2 0
    ∷ refused 1 0
    ∷ []
unfolding answers outcome outcome_from records_from follow ended ended_sets step kind_step is_late axes_before said_at regions_only end_step value_step after_end after_value unless with_value with_entry index_in with_use has first_like like same_region region_list coordinates end_refusal value_no form_refusal in_turn early_refusal published_work regions_at_head axis_run first_failed value_as_word first_wrong_byte first_not_zero must_be_zero word signed be
worked = refl

-- the regions at the head: rounded up, up to the first record of another kind, whatever the bytes behind the kinds are; none for no axes
heads : regions_at_head 2 (axis_record 0 0 64 ++ (axis_record 0 1 64 ++ axis_record 1 0 64)) ∷ regions_at_head 1 (two (end_record ++ axis_record 2 0 64)) ∷ regions_at_head 3 (twins [])
    ∷ regions_at_head 1 (axis_record 9 9 64) ∷ regions_at_head 1 (end_record ++ axis_record 0 0 64) ∷ regions_at_head 0 (two []) ∷ regions_at_head 1 [] ∷ []
    ≡ 2 ∷ 2 ∷ 1 ∷ 1 ∷ 0 ∷ 0 ∷ 0 ∷ []
unfolding regions_at_head axis_run
heads = refl

-- the words of work: of one record, of seven with two regions, of a hundred with 32 and with 33, at the record limit with none and with all regions, and above it
words : building_work 1 0 ∷ building_work 7 2 ∷ building_work 100 32 ∷ building_work 100 33 ∷ building_work 1048576 0 ∷ building_work 1048576 32767 ∷ building_work 1048577 0 ∷ []
    ≡ 32 ∷ 259 ∷ 6700 ∷ 7100 ∷ 16793600 ∷ 53492736 ∷ 0 ∷ []
unfolding building_work published_work
words = refl
