-- What shows an id: a refusal's number and place, or where the part starts and how long it is, in the job or in the store. Assumes nothing.
use Rattle.std.specs.Prelude.{ℕ, Result, Ok, Err}
use Rattle.refusals.specs.declared.Refused as refusals
use Rattle.refusals.specs.Refusals.{number}
use Rattle.showing.specs.declared.found.Part.{Part}
use Rattle.showing.specs.declared.found.Part.TheVariants as part

pub data Shown : Type 0 where
  Refused : ℕ → ℕ → Shown
  InJob : ℕ → ℕ → Shown
  InStore : ℕ → ℕ → Shown

-- of what the code answers
abbrev pub part_of : Part → Shown
part_of (part.InJob at long) = InJob at long
part_of (part.InStore at long) = InStore at long

abbrev pub shown_of : Result Part refusals.Refused → Shown
shown_of (Ok p) = part_of p
shown_of (Err x) = Refused (number x.refusal) x.place
