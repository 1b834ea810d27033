-- A forecast: the answer of a build that is lent enough to write to, and what it leaves in work and pair records, for every axis count, mode and
-- job. Assumes nothing.
use Rattle.std.specs.Prelude.{ℕ}
use Rattle.said.specs.Job.{Outcome, refused, fine}
use Rattle.finishing.specs.Answers.{Built}
use Rattle.finishing.specs.Answers.{Refused}
use Rattle.finishing.specs.Late.{late_forecast}
use Rattle.call.specs.Lending.{Lending}
use Rattle.call.specs.Build.{coords_in_use, packed_of, outcome_of}

-- a refusal of the records as it is; then too many shapes (R10), too big a store (R60), or the report
unfoldable pub foretold_from : ℕ → ℕ → Outcome → Built
foretold_from axes mode (refused n i) = Refused n i
foretold_from axes mode (fine s) = late_forecast axes (coords_in_use s) (packed_of mode s)

-- of a call, whatever it lends to write to
unfoldable pub foretold : Lending → Built
foretold c = foretold_from c.axes c.mode (outcome_of c)
