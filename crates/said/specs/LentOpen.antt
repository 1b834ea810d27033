-- What refusals 1 to 4 leave. Assumes nothing.
use Rattle.std.specs.Prelude.{List, ◌≡◌, ℕ, ◌≤◌, ◌<◌, length}
use Rattle.said.specs.Records.{record_start, record_count, most_records, most_axes}
use Rattle.said.specs.Refusals.{job_work, pair_records}

-- what is known where none of refusals 1 to 4 is given
pub record Open (axes mode : ℕ) (job : List ℕ) (work pairs : ℕ) : Type 0 where
  pub some : 0 < axes
  pub most : axes ≤ most_axes
  pub mode-known : mode ≤ 1
  pub few : record_count job ≤ most_records
  pub whole : record_start (record_count job) ≡ length job
  pub enough : job_work axes job ≤ work
  pub paired : pair_records ≤ pairs
