-- Where a record or the end of a job is refused, and what is so before (T1 to T3). Assumes nothing.
use Rattle.std.specs.Prelude.{ℕ, ◌<◌}
use Rattle.said.specs.Records.{record_count}
use Rattle.call.specs.Lending.{Lending}
use Rattle.demands.specs.Fits.{Fits}
use Rattle.refusing.specs.Fine.{AllFine}

-- none of 1 to 4; every record before i is fine; and this is so of record i
pub record EarliestBad (c : Lending) (i : ℕ) (Why : Type 0) : Type 0 where
  pub fits : Fits c
  pub within : i < record_count c.job
  pub before-fine : AllFine c.axes c.mode c.job i
  pub why : Why

-- none of 1 to 4; every record is fine; and this is so of the job
pub record AllPass (c : Lending) (Why : Type 0) : Type 0 where
  pub fits : Fits c
  pub all-fine : AllFine c.axes c.mode c.job (record_count c.job)
  pub why : Why
