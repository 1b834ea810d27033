-- What the clauses of private functions cite. Assumes nothing.
use Rattle.std.specs.Prelude.{◌≡◌, List, ℕ, ◌-◌, ◌/◌, ◌%◌, ◌≤◌, Result, Ok, Err}
use Rattle.refusals.specs.declared.Refused.{Refused}
use Rattle.refusals.specs.Refusals.{number}
use Rattle.said.specs.Records.{record_at}
use Rattle.said.specs.Sets.{region_list}
use Rattle.said.specs.Job.{in_axes, in_sets, regions_only, refused, records_from}

-- the axis records end before record `at`: what is left of the job answers for the whole of it
pub record AxesEnd (axes : ℕ) (job : List ℕ) (records at : ℕ) : Type 0 where
  pub within : at ≤ records
  pub whole : at % axes ≡ 0
  pub good : (mode : ℕ) → records_from axes mode job job records 0 in_axes
      ≡ records_from axes mode job (record_at job at) (records - at) at (in_sets (regions_only (region_list axes (at / axes) job)))

-- the axis records end before a record, or are refused as the whole of the job is
abbrev pub AxesRead : ℕ → List ℕ → ℕ → Result ℕ Refused → Type 0
AxesRead axes job records (Ok at) = AxesEnd axes job records at
AxesRead axes job records (Err x) = (x.place ≤ records) × ((mode : ℕ) → records_from axes mode job job records 0 in_axes ≡ refused (number x.refusal) x.place)
