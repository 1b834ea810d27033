-- How a job was read while a region's number was byte 1 alone and byte 3 had to be 0 in every record: the tests of one record and the walk along all of
-- them, as they stood then. What does not ask for a region's number is as it is now (said/specs/Refusals, Job). Nothing is read this way any more.
use Rattle.std.specs.Prelude.{Bool, not, ◌&&◌, ◌||◌, List, [], ◌∷◌, ℕ, zero, suc, ◌+◌, ◌/◌, ◌%◌, length, get_or, eqb, ltb}
use Rattle.laws.specs.Pick.{pick}
use Rattle.said.specs.Records.{after_record, kind, axis_kind, value_kind, end_kind, is_axis, is_value, is_known, axis_of, first_not_zero, value_as_word}
use Rattle.said.specs.Refusals.{unknown_region, region_twice, unknown_kind, not_zero, axis_out_of_turn, axis_too_late, region_unfinished, first_failed}
use Rattle.said.specs.Sets.{first_like, has}
use Rattle.said.specs.Job.{Said, State, in_axes, in_sets, Step, on, unless, after_value, end_step, said_at, axes_before, is_late, Outcome, ended, follow}

-- ---- one record

abbrev pub one_region : List ℕ → ℕ
one_region r = get_or r 1 0

-- the bytes that had to be 0, and the first of them that is not; 0 where all are
unfoldable pub one_zeros : ℕ → List ℕ
one_zeros k =
    pick (eqb k axis_kind) (3 ∷ 10 ∷ 11 ∷ [])
    (pick (eqb k value_kind) (2 ∷ 3 ∷ 8 ∷ 9 ∷ 10 ∷ 11 ∷ [])
    (pick (eqb k end_kind) (1 ∷ 2 ∷ 3 ∷ 4 ∷ 5 ∷ 6 ∷ 7 ∷ 8 ∷ 9 ∷ 10 ∷ 11 ∷ []) []))

unfoldable pub one_wrong : List ℕ → ℕ
one_wrong r = first_not_zero r (one_zeros (kind r))

-- R30 to R34
unfoldable pub one_turn : (axes before : ℕ) (bytes : List ℕ) → Bool
one_turn axes before r = eqb (one_region r) (before / axes) && eqb (axis_of r) (before % axes)

unfoldable pub one_form : (axes before : ℕ) (late : Bool) (bytes : List ℕ) → ℕ
one_form axes before late r =
    first_failed
    ((is_known r, unknown_kind)
    ∷ (eqb (one_wrong r) 0, not_zero)
    ∷ (not (is_axis r) || one_turn axes before r, axis_out_of_turn)
    ∷ (not (is_axis r) || not late, axis_too_late)
    ∷ (is_axis r || eqb (before % axes) 0, region_unfinished)
    ∷ [])

-- R6, R7
unfoldable pub one_value_no : (bytes : List ℕ) (regions : ℕ) (named : Bool) → ℕ
one_value_no r regions named = first_failed ((ltb (one_region r) regions, unknown_region) ∷ (not named, region_twice) ∷ [])

unfoldable pub one_value : (bytes : List ℕ) → Said → Step
one_value r s =
    unless (one_value_no r (length s.regions) (has (first_like s.regions (one_region r)) s.named))
    (on (in_sets (after_value s (first_like s.regions (one_region r)) (value_as_word r))))

unfoldable pub one_kind : (mode : ℕ) (bytes : List ℕ) → Said → Step
one_kind mode r s = pick (is_axis r) (on in_axes) (pick (is_value r) (one_value r s) (end_step mode s))

unfoldable pub one_step : (axes mode : ℕ) (job bytes : List ℕ) (i : ℕ) → State → Step
one_step axes mode job r i s = unless (one_form axes (axes_before axes i s) (is_late s) r) (one_kind mode r (said_at axes job i s))

-- ---- so many records from record i on

unfoldable pub one_records : (axes mode : ℕ) (job rest : List ℕ) (left i : ℕ) → State → Outcome
one_records axes mode job rest zero i s = ended axes job i s
one_records axes mode job rest (suc left) i s =
    follow i (one_step axes mode job rest i s) (λ s'. one_records axes mode job (after_record rest) left (i + 1) s')
