-- Where two sets of a job part: what is answered (RULES J6, S1 to S3, F1, R64). The sets go by their numbers in the job, and
-- the region by its index and by the number that the job has for it.
use Rattle.std.specs.Prelude.{◌&&◌, List, [], ℕ, zero, suc, eqb, ltb, length, get_or}
use Rattle.laws.specs.Pick.{pick}
use Rattle.sets.specs.declared.Parting.{Parting}
use Rattle.sets.specs.declared.Parting.TheVariants as parts
use Rattle.sets.specs.Order.{parting}
use Rattle.said.specs.Records.{kind, value_kind, region_number, after_record, record_count}
use Rattle.said.specs.Refusals.{pair_records, no_set}
use Rattle.said.specs.Sets.{Region, first_like}
use Rattle.said.specs.Job.{Said, Outcome, refused, fine, outcome}
use Rattle.parting.specs.Answers.{Parted}
use Rattle.parting.specs.Answers.{Refused, Equal, Smaller, Larger}

-- of so many records, where `rest` are the bytes from the first of them on: the region that the first value record names whose region
-- has q for the first region like it (S1); 0 where there is none
unfoldable pub first_region_named : List Region → (q left : ℕ) (rest : List ℕ) → ℕ
first_region_named regions q zero rest = 0
first_region_named regions q (suc left) rest =
    pick (eqb (kind rest) value_kind && eqb (first_like regions (region_number rest)) q) (region_number rest) (first_region_named regions q left (after_record rest))

-- the number in the job of the region that first used index r (S2)
unfoldable pub user_of : (job : List ℕ) → Said → ℕ → ℕ
user_of job s r = first_region_named s.regions (get_or s.used r 0) (record_count job) job

-- where two sets part, with that number
unfoldable pub named : (job : List ℕ) → Said → Parting → Parted
named job s parts.Equal = Equal
named job s (parts.Smaller r v u) = Smaller r (user_of job s r) v u
named job s (parts.Larger r v u) = Larger r (user_of job s r) v u

-- of sets x and y of what a job says; R64: there is no set of that number
unfoldable pub parted_in : (job : List ℕ) (x y : ℕ) → Said → Parted
parted_in job x y s =
    pick (ltb x (length s.sets) && ltb y (length s.sets))
    (named job s (parting (get_or s.sets x []) (get_or s.sets y []))) (Refused no_set 0)

-- the job's own refusals come first
unfoldable pub parted_of : (job : List ℕ) (x y : ℕ) → Outcome → Parted
parted_of job x y (refused n i) = Refused n i
parted_of job x y (fine s) = parted_in job x y s

-- of a call that is lent so many words of work: mode 0, and no pair record is asked for, as if all that a build needs were lent
abbrev pub part_of : (axes : ℕ) (job : List ℕ) (x y work : ℕ) → Parted
part_of axes job x y work = parted_of job x y (outcome axes 0 job work pair_records)
