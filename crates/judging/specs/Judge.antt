-- Judging a store that was built elsewhere (#106): what is answered, for every job, store and list of words. The job is judged first, by R1, R3, R4
-- and those of its records up to R8. Then yes, where the store is well formed throughout, has the job's axis count, lists no region twice, and every set's row gives each region that
-- the set names its value and every other listed region zero; a named region that is not listed counts as zero. A no names the first set that fails, or none
-- where the store itself is at fault.
use Rattle.std.specs.Prelude.{Bool, ◌&&◌, List, [], ◌∷◌, map, ℕ, zero, suc, ◌+◌, ◌*◌, ◌/◌, ◌%◌, min, eqb, ltb, leb, ℤ, length, get_or, replicate}
use Rattle.std.proofs.Math.Option.{Option, none, some}
use Rattle.laws.specs.Pick.{pick}
use Rattle.laws.specs.Signed.{value}
use Rattle.sets.specs.Set.{Set}
use Rattle.said.specs.Records.{record_count, is_whole_records, most_records, most_axes}
use Rattle.limits.specs.Limits.{max_regions}
use Rattle.said.specs.Work.{regions_at_head}
use Rattle.said.specs.Refusals.{first_failed, published_work, bad_axes, bad_job_length, work_short}
use Rattle.said.specs.Job.{Said, Outcome, refused, fine, in_axes, records_from, outcome_from}
use Rattle.stores.specs.Stores.{Parsed, parse}
use Rattle.stores.specs.Coordinates.{once, row_gives}
use Rattle.call.specs.Build.{coords_in_use}
use Rattle.judging.specs.Answers.{Judged}
use Rattle.judging.specs.Answers.{Refused, Right, WrongSet, WrongStore}

-- ---- sets

-- what a set names: the coordinates of each region, and its value. A zero is not held (S3): such a region is as one that is not named
unfoldable pub named_in : Said → Set → List (List ℕ × ℤ)
named_in s set = map (λ e. (get_or (coords_in_use s) e.0 [], value e.1)) set

-- set k has a word, outer x 65,536 + inner, and the row that it names gives the set
unfoldable pub set_given : Parsed → Said → (words : List ℕ) → ℕ → Bool
set_given p s words k =
    ltb k (length words)
    && row_gives p (get_or words k 0 / 65536) (get_or words k 0 % 65536) (named_in s (get_or s.sets k []))

-- of so many sets, from set k on: the first that fails
unfoldable pub first_failing : (given : ℕ → Bool) → (left k : ℕ) → Judged
first_failing given zero k = Right
first_failing given (suc left) k = pick (given k) (first_failing given left (suc k)) (WrongSet k)

-- ---- the store, and the job before it

unfoldable pub judged_in : (axes : ℕ) (words : List ℕ) → Said → Option Parsed → Judged
judged_in axes words s none = WrongStore
judged_in axes words s (some p) =
    pick (eqb p.axes axes && once p.regions) (first_failing (set_given p s words) (length s.sets) 0) WrongStore

unfoldable pub judged_of : (axes : ℕ) (store words : List ℕ) → Outcome → Judged
judged_of axes store words (refused n i) = Refused n i
judged_of axes store words (fine s) = judged_in axes words s (parse store)

-- ---- a call

-- the words of work for so many records and regions, and a store of so many bytes: the job's number, and three words a byte
abbrev pub judge_work : (records regions bytes : ℕ) → ℕ
judge_work n r bytes = published_work n r + 3 * bytes

-- as it is asked for: 0 above the record limit, and for more bytes than any slice has; more regions than there may be count as so many
unfoldable pub judging_work : (records regions bytes : ℕ) → ℕ
judging_work n r bytes = pick (leb n most_records && leb bytes 0x4000_0000_0000_0000) (judge_work n (min r max_regions) bytes) 0

-- R1, R3, R4, of a job, a store of so many bytes and so many words of work
unfoldable pub judge_refusal : (axes : ℕ) (job : List ℕ) (store work : ℕ) → ℕ
judge_refusal axes job store work =
    first_failed
    ((ltb 0 axes && leb axes most_axes, bad_axes)
    ∷ (is_whole_records (length job) && leb (record_count job) most_records, bad_job_length)
    ∷ (leb (judge_work (record_count job) (regions_at_head axes job) store) work, work_short)
    ∷ [])

-- of a call that is lent so many words of work; the records are read as in mode 0, so that 9 is not asked
unfoldable pub judge_of : (axes : ℕ) (job store words : List ℕ) (work : ℕ) → Judged
judge_of axes job store words work =
    judged_of axes store words
    (outcome_from (judge_refusal axes job (length store) work) (records_from axes 0 job job (record_count job) 0 in_axes))

-- work is left by R1, R3 and R4, and all zeros after any other answer (L2)
unfoldable pub judge_left : (axes : ℕ) (job : List ℕ) (store : ℕ) → List ℕ → List ℕ
judge_left axes job store w = pick (eqb (judge_refusal axes job store (length w)) 0) (replicate (length w) 0) w
