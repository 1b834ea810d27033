-- A job, record by record: where it is refused, or what it says (RULES J1 to J6, R1 to R9, R30 to R34, T1 to T3, T5). The axis records come first and say the
-- regions (state `in_axes`); from the first value or end on, each value goes into the set that is begun and each end ends it (state `in_sets`, with all
-- that was said so far). A record is judged in the state before it: it stops the reading by a number, or leads to the next state.
use Rattle.std.specs.Prelude.{Bool, true, false, List, [], ◌∷◌, ◌++◌, ℕ, zero, suc, ◌+◌, ◌*◌, ◌/◌, ◌%◌, length, eqb}
use Rattle.laws.specs.Pick.{pick}
use Rattle.sets.specs.Set.{Set}
use Rattle.said.specs.Records.{after_record, record_count, is_axis, is_value, region_number, value_as_word}
use Rattle.said.specs.Refusals.{unfinished, early_refusal, form_refusal, value_no, end_refusal}
use Rattle.said.specs.Sets.{Region, region_list, first_like, has, with_use, index_in, with_value}

-- what the records so far say, once the axis records are over
pub record Said : Type 0 where
  -- the regions
  pub regions : List Region
  -- those in use, by region index
  pub used : List ℕ
  -- the sets that have ended, and how many values there were
  pub sets : List Set
  pub values : ℕ
  -- of the set that has not ended: the regions that it has named, none between sets; and the set
  pub named : List ℕ
  pub begun : Set

pub data State : Type 0 where
  -- all records so far were axis records
  in_axes : State
  in_sets : Said → State

pub data Step : Type 0 where
  stop : ℕ → Step
  on : State → Step

-- stopped by a refusal number, or else as it goes on
unfoldable pub unless : (number : ℕ) → Step → Step
unless zero x = x
unless (suc n) x = stop (suc n)

-- a value of the first region like it, q, whose index is that among the regions in use
unfoldable pub after_value : Said → (region word : ℕ) → Said
after_value s q w = record {
  regions = s.regions;
  used = with_use s.used q;
  sets = s.sets;
  values = s.values + 1;
  named = q ∷ s.named;
  begun = with_value (index_in q (with_use s.used q)) w s.begun;
}

-- an end record ends a set (J6)
unfoldable pub after_end : Said → Said
after_end s = record { regions = s.regions; used = s.used; sets = s.sets ++ (s.begun ∷ []); values = s.values; named = []; begun = [] }

-- R6, R7
unfoldable pub value_step : (bytes : List ℕ) → Said → Step
value_step r s =
    unless (value_no r (length s.regions) (has (first_like s.regions (region_number r)) s.named))
    (on (in_sets (after_value s (first_like s.regions (region_number r)) (value_as_word r))))

-- R9
unfoldable pub end_step : (mode : ℕ) → Said → Step
end_step mode s = unless (end_refusal mode (length s.sets)) (on (in_sets (after_end s)))

-- no sets yet
unfoldable pub regions_only : List Region → Said
regions_only regions = record { regions = regions; used = []; sets = []; values = 0; named = []; begun = [] }

-- what is said before record i
unfoldable pub said_at : (axes : ℕ) (job : List ℕ) (i : ℕ) → State → Said
said_at axes job i in_axes = regions_only (region_list axes (i / axes) job)
said_at axes job i (in_sets s) = s

-- how many axis records stand before record i, and whether a value or an end does
unfoldable pub axes_before : (axes i : ℕ) → State → ℕ
axes_before axes i in_axes = i
axes_before axes i (in_sets s) = axes * length s.regions

unfoldable pub is_late : State → Bool
is_late in_axes = false
is_late (in_sets s) = true

-- a record whose form is right, by its kind
unfoldable pub kind_step : (mode : ℕ) (bytes : List ℕ) → Said → Step
kind_step mode r s = pick (is_axis r) (on in_axes) (pick (is_value r) (value_step r s) (end_step mode s))

-- Record i, of the bytes r: R30 to R34, then by its kind
unfoldable pub step : (axes mode : ℕ) (job bytes : List ℕ) (i : ℕ) → State → Step
step axes mode job r i s = unless (form_refusal axes (axes_before axes i s) (is_late s) r) (kind_step mode r (said_at axes job i s))

-- a refusal's number and place, or what the job says
pub data Outcome : Type 0 where
  refused : ℕ → ℕ → Outcome
  fine : Said → Outcome

-- the job ends after i records. R8: within a region or a set; its place is the record count
unfoldable pub ended_sets : (records : ℕ) → Said → (named : List ℕ) → Outcome
ended_sets i s [] = fine s
ended_sets i s (q ∷ named) = refused unfinished i

unfoldable pub ended : (axes : ℕ) (job : List ℕ) (records : ℕ) → State → Outcome
ended axes job i in_axes = pick (eqb (i % axes) 0) (fine (regions_only (region_list axes (i / axes) job))) (refused unfinished i)
ended axes job i (in_sets s) = ended_sets i s s.named

unfoldable pub follow : (i : ℕ) → Step → (State → Outcome) → Outcome
follow i (stop n) go = refused n i
follow i (on s) go = go s

-- so many records from record i on, from a state: `rest` are the bytes from that record on. The first bad one decides
-- (T2)
unfoldable pub records_from : (axes mode : ℕ) (job rest : List ℕ) (left i : ℕ) → State → Outcome
records_from axes mode job rest zero i s = ended axes job i s
records_from axes mode job rest (suc left) i s =
    follow i (step axes mode job rest i s) (λ s'. records_from axes mode job (after_record rest) left (i + 1) s')

-- T1, then T2; the place of R1 to R4 is 0 (T5)
unfoldable pub outcome_from : (early : ℕ) → Outcome → Outcome
outcome_from zero o = o
outcome_from (suc n) o = refused (suc n) 0

-- of axis count, mode, job, the words of work and the number of pair records
unfoldable pub outcome : (axes mode : ℕ) (job : List ℕ) (work pairs : ℕ) → Outcome
outcome axes mode job work pairs =
    outcome_from (early_refusal axes mode job work pairs) (records_from axes mode job job (record_count job) 0 in_axes)
