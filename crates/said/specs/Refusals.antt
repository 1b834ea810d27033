-- Refusals: their numbers, and the tests of one record (RULES R1 to R14, R30 to R34, R60, R61, T1, T2; those of R70 to R72 stand with the panel's profile).
use Rattle.std.specs.Prelude.{Bool, not, ◌&&◌, ◌||◌, List, [], ◌∷◌, ℕ, ◌/◌, ◌%◌, length, eqb, ltb, leb}
use Rattle.laws.specs.Pick.{pick}
use Rattle.limits.specs.Limits.{max_regions, max_items}
-- the pair records that are lent beside work: fewer is WORK_SHORT
pub use Rattle.limits.specs.Limits.{pair_records}
use Rattle.said.specs.Records.{record_count, is_whole_records, most_records, most_axes, is_axis, is_known, region_number, axis_of, first_wrong_byte}
-- the words of work that a job asks for: fewer is WORK_SHORT
unfoldable pub use Rattle.said.specs.Work.{published_work, job_work, building_work}

-- ---- their numbers

abbrev pub bad_axes : ℕ
bad_axes = 1

abbrev pub bad_mode : ℕ
bad_mode = 2

abbrev pub bad_job_length : ℕ
bad_job_length = 3

abbrev pub work_short : ℕ
work_short = 4

abbrev pub unknown_region : ℕ
unknown_region = 6

abbrev pub region_twice : ℕ
region_twice = 7

abbrev pub unfinished : ℕ
unfinished = 8

abbrev pub sets_full : ℕ
sets_full = 9

abbrev pub shapes_full : ℕ
shapes_full = 10

abbrev pub ids_short : ℕ
ids_short = 11

abbrev pub map_short : ℕ
map_short = 12

abbrev pub log_short : ℕ
log_short = 13

abbrev pub out_short : ℕ
out_short = 14

abbrev pub unknown_kind : ℕ
unknown_kind = 30

abbrev pub not_zero : ℕ
not_zero = 31

abbrev pub axis_out_of_turn : ℕ
axis_out_of_turn = 32

abbrev pub axis_too_late : ℕ
axis_too_late = 33

abbrev pub region_unfinished : ℕ
region_unfinished = 34

abbrev pub store_too_big : ℕ
store_too_big = 60

abbrev pub origins_short : ℕ
origins_short = 61

abbrev pub no_set : ℕ
no_set = 64

abbrev pub long_value : ℕ
long_value = 70

abbrev pub bad_region : ℕ
bad_region = 71

abbrev pub wide_subtable : ℕ
wide_subtable = 72

-- ---- their tests

-- the bytes of a store: its offsets are of 32 bits
abbrev pub most_bytes : ℕ
most_bytes = 4294967295

-- Tests in their order, each with its number: the number of the first that fails, 0 where all hold.
unfoldable pub first_failed : List (Bool × ℕ) → ℕ
first_failed [] = 0
first_failed (t ∷ l) = pick t.0 (first_failed l) t.1

-- T1: of axis count, mode, job, the words of work and the pair records
unfoldable pub early_refusal : (axes mode : ℕ) (job : List ℕ) (work pairs : ℕ) → ℕ
early_refusal axes mode job work pairs =
    first_failed
    ((ltb 0 axes && leb axes most_axes, bad_axes)
    ∷ (leb mode 1, bad_mode)
    ∷ (is_whole_records (length job) && leb (record_count job) most_records, bad_job_length)
    ∷ (leb (job_work axes job) work, work_short)
    ∷ (leb pair_records pairs, work_short)
    ∷ [])

-- ---- one record (T2)

-- an axis record is in turn where its numbers are the ones after so many axis records (J4), and there may be such a region (J3)
unfoldable pub in_turn : (axes before : ℕ) (bytes : List ℕ) → Bool
in_turn axes before r = ltb (region_number r) max_regions && (eqb (region_number r) (before / axes) && eqb (axis_of r) (before % axes))

-- R30 to R34, of a record of any kind behind so many axis records; `late` where a value or an end stands before it
unfoldable pub form_refusal : (axes before : ℕ) (late : Bool) (bytes : List ℕ) → ℕ
form_refusal axes before late r =
    first_failed
    ((is_known r, unknown_kind)
    ∷ (eqb (first_wrong_byte r) 0, not_zero)
    ∷ (not (is_axis r) || in_turn axes before r, axis_out_of_turn)
    ∷ (not (is_axis r) || not late, axis_too_late)
    ∷ (is_axis r || eqb (before % axes) 0, region_unfinished)
    ∷ [])

-- R6, R7, of a value record where there are so many regions, and the set has named its region already or not
unfoldable pub value_no : (bytes : List ℕ) (regions : ℕ) (named : Bool) → ℕ
value_no r regions named = first_failed ((ltb (region_number r) regions, unknown_region) ∷ (not named, region_twice) ∷ [])

-- R9, of an end record after so many others
unfoldable pub end_refusal : (mode sets : ℕ) → ℕ
end_refusal mode sets = first_failed ((not (eqb mode 1 && eqb sets max_items), sets_full) ∷ [])

-- The byte that a refusal names within its record: for R31 the first that must be 0 and is not, byte 0 for every other
unfoldable pub byte_of : (number : ℕ) (bytes : List ℕ) → ℕ
byte_of n r = pick (eqb n not_zero) (first_wrong_byte r) 0
