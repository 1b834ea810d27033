-- What a build answers: a refusal's number and place, or done. Assumes nothing.
use Rattle.std.specs.Prelude.{ℕ, Result, Ok, Err}
use Rattle.refusals.specs.declared.Refused as refusals
use Rattle.refusals.specs.Refusals.{number}
use Rattle.finishing.specs.declared.answers.Report.{Report}

pub data Built : Type 0 where
  Refused : ℕ → ℕ → Built
  Done : Report → Built

-- of what the code answers
abbrev pub built : Result Report refusals.Refused → Built
built (Ok d) = Done d
built (Err x) = Refused (number x.refusal) x.place
