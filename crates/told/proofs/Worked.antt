-- A job of one axis, computed: it is taken, its value records stand in their sets by region index, and the theorem says so. Three regions, the last one
-- with the coordinates of the first; the sets {R1:1}, {R2:7, R1:0} and {}. Assumes nothing.
use mathlib.Core.List.{List, [], ◌∷◌, ◌++◌, map}
use mathlib.Core.Path.{◌≡◌, refl}
use Prim.Native.Nat.{ℕ, ◌+◌}
use native.Mathlib.Omega.{arith}
use Rattle.laws.specs.Bytes.{be}
use Rattle.laws.specs.Signed.{word, signed, zero_word}
use Rattle.sets.specs.Set.{Set, word_of}
use Rattle.said.specs.Records.{must_be_zero, first_not_zero, first_wrong_byte, value_as_word, record_count}
use Rattle.said.specs.Refusals.{pair_records, first_failed, published_work, early_refusal, in_turn, form_refusal, value_no, end_refusal}
use Rattle.said.specs.Work.{axis_run, regions_at_head}
use Rattle.said.specs.Sets.{Region, coordinates, region_list, same_region, like, first_like, has, with_use, index_in, with_entry, with_value}
use Rattle.said.specs.Job.{Said, fine, unless, after_value, after_end, value_step, end_step, regions_only, said_at, axes_before, is_late, kind_step, step, ended, ended_sets, follow, records_from, outcome_from, outcome}
use Rattle.told.specs.Told.{count_kind, ends_before, ValueIn, coordinates_at, index_of, Given, Told}
use Rattle.told.proofs.Bytes.{told}

abbrev axis_record : ℕ → ℕ → List ℕ
axis_record region peak = 1 ∷ region ∷ 0 ∷ 0 ∷ 0 ∷ 0 ∷ peak ∷ 0 ∷ 64 ∷ 0 ∷ 0 ∷ 0 ∷ []

abbrev value_record : ℕ → ℕ → List ℕ
value_record region v = 2 ∷ region ∷ 0 ∷ 0 ∷ 0 ∷ 0 ∷ 0 ∷ v ∷ 0 ∷ 0 ∷ 0 ∷ 0 ∷ []

abbrev end_record : List ℕ
end_record = 3 ∷ 0 ∷ 0 ∷ 0 ∷ 0 ∷ 0 ∷ 0 ∷ 0 ∷ 0 ∷ 0 ∷ 0 ∷ 0 ∷ []

abbrev job : List ℕ
job =
    axis_record 0 64 ++ (axis_record 1 32 ++ (axis_record 2 64
    ++ (value_record 1 1 ++ (end_record
    ++ (value_record 2 7 ++ (value_record 1 0 ++ (end_record
    ++ end_record)))))))

abbrev r₀ : Region
r₀ = 0 ∷ 16384 ∷ 16384 ∷ []

abbrev r₁ : Region
r₁ = 0 ∷ 8192 ∷ 16384 ∷ []

-- region 1 is used first; region 2 goes by region 0, the first like it
abbrev s : Said
s = record {
  regions = r₀ ∷ r₁ ∷ r₀ ∷ [];
  used = 1 ∷ 0 ∷ [];
  sets = ((0, zero_word + 1) ∷ []) ∷ ((1, zero_word + 7) ∷ []) ∷ [] ∷ [];
  values = 3;
  named = [];
  begun = [];
}

taken : outcome 1 0 job 4096 pair_records ≡ fine s
unfolding outcome outcome_from records_from follow ended ended_sets step kind_step is_late axes_before said_at regions_only end_step value_step after_end after_value unless with_value with_entry index_in with_use has first_like like same_region region_list coordinates end_refusal value_no form_refusal in_turn early_refusal published_work regions_at_head axis_run first_failed value_as_word first_wrong_byte first_not_zero must_be_zero word signed be
taken = refl

-- end records before each record, and in all; regions by index and by coordinates
counted : map (ends_before job) (0 ∷ 3 ∷ 4 ∷ 5 ∷ 6 ∷ 7 ∷ 8 ∷ record_count job ∷ []) ≡ 0 ∷ 0 ∷ 0 ∷ 1 ∷ 1 ∷ 1 ∷ 2 ∷ 3 ∷ []
unfolding count_kind
counted = refl

indexes : map (index_of s) (0 ∷ 1 ∷ 2 ∷ []) ≡ 1 ∷ 0 ∷ 1 ∷ []
unfolding index_in first_like like same_region
indexes = refl

regions-at : map (coordinates_at 1 job) (0 ∷ 1 ∷ 2 ∷ []) ≡ r₀ ∷ r₁ ∷ r₀ ∷ []
unfolding coordinates be
regions-at = refl

-- the words of each set at indexes 0 and 1, and at 2, which no region has
abbrev words : Set → List ℕ
words b = map (word_of b) (0 ∷ 1 ∷ 2 ∷ [])

words_are : map words s.sets ≡
    ((zero_word + 1) ∷ zero_word ∷ zero_word ∷ [])
    ∷ (zero_word ∷ (zero_word + 7) ∷ zero_word ∷ [])
    ∷ (zero_word ∷ zero_word ∷ zero_word ∷ [])
    ∷ []
unfolding word_of
words_are = refl

pub told-all : Told 1 job s
told-all = told 1 0 job 4096 pair_records s taken

-- record 6 is a value record of set 1, a zero
sixth : ValueIn job 1 6
unfolding count_kind
sixth = record { within = omega arith; is-value = refl; in-set = refl }

pub sixth-given : Given 1 job s 1 6
sixth-given = told-all.given 1 6 sixth
