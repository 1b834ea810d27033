-- What keeping rows answers: a refusal's number, or how many bytes, subtables, regions and rows are kept. Assumes nothing.
use Rattle.std.specs.Prelude.{ℕ, Result, Ok, Err}
use Rattle.refusals.specs.declared.Refusal.{Refusal}
use Rattle.refusals.specs.Refusals.{number}
use Rattle.keeping.specs.declared.KeptCounts.{KeptCounts}

pub data Kept : Type 0 where
  Done : (bytes tables regions rows : ℕ) → Kept
  Refused : ℕ → Kept

-- of what the code answers
abbrev pub kept : Result KeptCounts Refusal → Kept
kept (Ok c) = Done c.bytes c.tables c.regions c.rows
kept (Err r) = Refused (number r)
