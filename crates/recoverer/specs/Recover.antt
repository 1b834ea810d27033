-- A store read back into a job (#105): what is refused, in its order, and what is answered and left (RULES R4, R20, R50 to R53).
use Rattle.std.specs.Prelude.{◌&&◌, List, [], ◌∷◌, ℕ, ◌*◌, eqb, ltb, leb, length, replicate}
use Rattle.laws.specs.Pick.{pick}
use Rattle.laws.specs.Bag.{weigh}
use Rattle.laws.specs.Bytes.{over}
use Rattle.limits.specs.Limits.{most_records, most_axes, max_regions}
use Rattle.reader.specs.Store.{bad_store}
use Rattle.said.specs.Records.{record_bytes}
use Rattle.said.specs.Refusals.{work_short, first_failed}
use Rattle.stores.specs.Stores.{Parsed, store_at, parse, parses}
use Rattle.stores.specs.Dropping.{row_count}
use Rattle.stores.specs.Coordinates.{once}
use Rattle.recovering.specs.Recovering.{job_of, records_of}
use Rattle.recoverer.specs.Answers.{Recovered, Done, Refused}

-- ---- the numbers of its own refusals

abbrev pub regions_equal : ℕ
regions_equal = 50

abbrev pub regions_or_axes : ℕ
regions_or_axes = 51

abbrev pub job_too_long : ℕ
job_too_long = 52

abbrev pub job_short : ℕ
job_short = 53

-- the words of work for a store of so many bytes: one a byte
abbrev pub recovering_work : ℕ → ℕ
recovering_work bytes = bytes

-- ---- tests in their order

-- R20 and R50: every subtable is well formed, and no two regions of the list are equal
unfoldable pub look_no : List ℕ → ℕ
look_no s = first_failed ((parses (parse s), bad_store) ∷ (once (store_at s).regions, regions_equal) ∷ [])

-- R51: regions and axes that a job can have
unfoldable pub bounds_refusal : (regions axes : ℕ) → ℕ
bounds_refusal regions axes = first_failed ((leb regions max_regions && (ltb 0 axes && leb axes most_axes), regions_or_axes) ∷ [])

-- R51 to R53, of what the store is, for so many bytes of output
unfoldable pub late_no : Parsed → ℕ → ℕ
late_no p out =
    first_failed
    ((leb (length p.regions) max_regions && (ltb 0 p.axes && leb p.axes most_axes), regions_or_axes)
    ∷ (leb (records_of p) most_records, job_too_long)
    ∷ (leb (record_bytes * records_of p) out, job_short)
    ∷ [])

-- all of them, for so many words of work and bytes of output; 0 where none refuses
unfoldable pub recover_no : List ℕ → (work out : ℕ) → ℕ
recover_no s work out =
    first_failed
    ((leb (recovering_work (length s)) work, work_short)
    ∷ (parses (parse s), bad_store)
    ∷ (once (store_at s).regions, regions_equal)
    ∷ (leb (length (store_at s).regions) max_regions && (ltb 0 (store_at s).axes && leb (store_at s).axes most_axes), regions_or_axes)
    ∷ (leb (records_of (store_at s)) most_records, job_too_long)
    ∷ (leb (record_bytes * records_of (store_at s)) out, job_short)
    ∷ [])

-- ---- the answer and what is left

-- job bytes, axes, regions and sets
abbrev pub counts : Parsed → Recovered
counts p = Done (record_bytes * records_of p) p.axes (length p.regions) (weigh row_count p.tables)

unfoldable pub answer_for : Parsed → ℕ → Recovered
answer_for p n = pick (eqb n 0) (counts p) (Refused n)

unfoldable pub left_for : Parsed → ℕ → List ℕ → List ℕ
left_for p n out = pick (eqb n 0) (over out 0 (length (job_of p)) (job_of p)) out

abbrev pub recovered_of : List ℕ → (work out : ℕ) → Recovered
recovered_of s work out = answer_for (store_at s) (recover_no s work out)

-- a refusal writes nothing, and behind the job all is as it was
abbrev pub job_left : List ℕ → ℕ → List ℕ → List ℕ
job_left s work out = left_for (store_at s) (recover_no s work (length out)) out

-- untouched where it is too short, else zeros to its last word
unfoldable pub work_left : ℕ → List ℕ → List ℕ
work_left bytes work = pick (leb (recovering_work bytes) (length work)) (replicate (length work) 0) work
