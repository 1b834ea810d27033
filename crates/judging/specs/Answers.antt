-- What is told of a store that was judged: a refusal's number and place; or the store gives every set; or set k is the first that it does not give; or the
-- store itself is at fault. Assumes nothing.
use Rattle.std.specs.Prelude.{ℕ, Result, Ok, Err}
use Rattle.refusals.specs.declared.Refused as refusals
use Rattle.refusals.specs.Refusals.{number}
use Rattle.judging.specs.declared.judging.Verdict.{Verdict}
use Rattle.judging.specs.declared.judging.Verdict.TheVariants as verdict

pub data Judged : Type 0 where
  Refused : ℕ → ℕ → Judged
  Right : Judged
  WrongSet : ℕ → Judged
  WrongStore : Judged

-- of what the code answers
abbrev pub verdict_of : Verdict → Judged
verdict_of verdict.Right = Right
verdict_of (verdict.WrongSet k) = WrongSet k
verdict_of verdict.WrongStore = WrongStore

abbrev pub judged : Result Verdict refusals.Refused → Judged
judged (Ok v) = verdict_of v
judged (Err x) = Refused (number x.refusal) x.place
