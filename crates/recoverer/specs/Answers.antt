-- What reading a store back answers: a refusal's number, or the bytes, axes, regions and sets of its job. Assumes nothing.
use Rattle.std.specs.Prelude.{ℕ, Result, Ok, Err}
use Rattle.refusals.specs.declared.Refusal.{Refusal}
use Rattle.refusals.specs.Refusals.{number}
use Rattle.recoverer.specs.declared.RecoveredCounts.{RecoveredCounts}

pub data Recovered : Type 0 where
  Done : (bytes axes regions sets : ℕ) → Recovered
  Refused : ℕ → Recovered

-- of what the code answers
abbrev pub recovered : Result RecoveredCounts Refusal → Recovered
recovered (Ok c) = Done c.bytes c.axes c.regions c.sets
recovered (Err r) = Refused (number r)
