-- Why two ids are where they are: a refusal's number and place, or the reason. Assumes nothing.
use Rattle.std.specs.Prelude.{ℕ, Result, Ok, Err}
use Rattle.refusals.specs.declared.Refused as refusals
use Rattle.refusals.specs.Refusals.{number}
use Rattle.why_words.specs.declared.explained.Explained.{Explained}
use Rattle.why_words.specs.declared.explained.Explained.TheVariants as explained

pub data Why : Type 0 where
  Refused : ℕ → ℕ → Why
  Same : Why
  CutApart : Why
  NeverJoined : ℕ → ℕ → ℕ → Why

-- of what the code answers
abbrev pub reason_of : Explained → Why
reason_of explained.Same = Same
reason_of explained.CutApart = CutApart
reason_of (explained.NeverJoined a b j) = NeverJoined a b j

abbrev pub why_of : Result Explained refusals.Refused → Why
why_of (Ok r) = reason_of r
why_of (Err x) = Refused (number x.refusal) x.place
