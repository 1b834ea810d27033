-- What the clauses of private functions cite. Assumes nothing.
use Rattle.std.specs.Prelude.{◌≡◌, List, ℕ, ◌+◌, ◌*◌, ◌≤◌, ◌<◌, length, get_or}
use Rattle.limits.specs.Limits.{most_records, most_axes}
use Rattle.said.specs.Records.{kind, value_kind, region_number, record_at, record_start, record_count}
use Rattle.said.specs.Sets.{Region, first_like}
use Rattle.said.specs.Job.{Said, in_axes, records_from, fine}
use Rattle.job.specs.Lent.{JobHeld}

-- the first like each of a job's regions stands in w from `first` on, and value records name these regions
pub record NamedFit (job : List ℕ) (records : ℕ) (w : List ℕ) (first : ℕ) : Type 0 where
  pub regions : List Region
  pub whole : record_start records ≤ length job
  pub room : first + length regions ≤ length w
  pub firsts : (p : ℕ) → p < length regions → get_or w (first + p) 0 ≡ first_like regions p
  pub known : (i : ℕ) → i < records → kind (record_at job i) ≡ value_kind → region_number (record_at job i) < length regions

-- bytes that refusals 1 to 4 let pass, with so many words of work
pub record JobOpen (axes : ℕ) (job : List ℕ) (records long : ℕ) : Type 0 where
  pub bytes : (k : ℕ) → get_or job k 0 < 256
  pub some : 0 < axes
  pub most : axes ≤ most_axes
  pub few : records ≤ most_records
  pub records-are : records ≡ record_count job
  pub whole : record_start records ≤ length job
  pub room : 16 * records ≤ long

-- a sound job, one of its indexes, and the region in use that work has for it
pub record UserFit (axes : ℕ) (job : List ℕ) (records regions : ℕ) (w : List ℕ) (index : ℕ) : Type 0 where
  pub passed : JobOpen axes job records (length w)
  pub said : Said
  pub is : records_from axes 0 job job records 0 in_axes ≡ fine said
  pub regions-are : length said.regions ≡ regions
  pub index_in : index < length said.used
  pub used-is : get_or w (4 * records + index) 0 ≡ get_or said.used index 0

-- work holds the sets of a sound job
pub record JobStands (axes : ℕ) (job : List ℕ) (records regions sets : ℕ) (w : List ℕ) : Type 0 where
  pub passed : JobOpen axes job records (length w)
  pub values : ℕ
  pub uses : ℕ
  pub held : JobHeld axes 0 job records w (record { regions = regions; sets = sets; values = values; uses = uses })
