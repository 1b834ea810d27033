-- R1 to R4 in plain numbers, in the order T1. Each record says what holds where the numbers up to its own
-- are not given. Assumes nothing.
use Rattle.std.specs.Prelude.{List, ◌≡◌, ℕ, ◌≤◌, ◌<◌, length}
use Rattle.said.specs.Refusals.{job_work, pair_records}
use Rattle.call.specs.Lending.{Lending}
use Rattle.said.specs.Records.{spare_bytes, whole_records_in}
use Rattle.limits.specs.Limits.{most_records, most_axes}

-- R1
pub record AxesFit (axes : ℕ) : Type 0 where
  pub some : 0 < axes
  pub most : axes ≤ most_axes

-- R2
pub record ModeFit (axes mode : ℕ) : Type 0 where
  pub axes-fit : AxesFit axes
  pub known : mode ≤ 1

-- R3
pub record LengthFit (axes mode bytes : ℕ) : Type 0 where
  pub mode-fit : ModeFit axes mode
  pub whole : spare_bytes bytes ≡ 0
  pub few : whole_records_in bytes ≤ most_records

-- R4
pub record WorkFit (axes mode : ℕ) (job : List ℕ) (work pairs : ℕ) : Type 0 where
  pub length-fit : LengthFit axes mode (length job)
  pub enough : job_work axes job ≤ work
  pub paired : pair_records ≤ pairs

-- of a call
abbrev pub Fits : Lending → Type 0
Fits c = WorkFit c.axes c.mode c.job (length c.work) (length c.pairs)
