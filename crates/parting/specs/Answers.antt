-- What is told of two sets of a job: a refusal's number and place; or how the first stands to the second, and where they are not equal the first region
-- index where they differ, the number in the job of the region that first used that index, and the words of both sets there. Assumes nothing.
use Rattle.std.specs.Prelude.{ℕ, Result, Ok, Err}
use Rattle.refusals.specs.declared.Refused as refusals
use Rattle.refusals.specs.Refusals.{number}
use Rattle.parting.specs.declared.answering.Standing.{Standing}
use Rattle.parting.specs.declared.answering.Standing.TheVariants as standing

pub data Parted : Type 0 where
  Refused : ℕ → ℕ → Parted
  Equal : Parted
  Smaller : ℕ → ℕ → ℕ → ℕ → Parted
  Larger : ℕ → ℕ → ℕ → ℕ → Parted

-- of what the code answers
abbrev pub standing_of : Standing → Parted
standing_of standing.Equal = Equal
standing_of (standing.Smaller r p v u) = Smaller r p v u
standing_of (standing.Larger r p v u) = Larger r p v u

abbrev pub parted : Result Standing refusals.Refused → Parted
parted (Ok s) = standing_of s
parted (Err x) = Refused (number x.refusal) x.place
