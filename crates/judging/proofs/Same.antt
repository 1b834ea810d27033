-- Two answers of a store that was judged that are told alike are one. Assumes nothing.
use mathlib.Core.Path.{◌≡◌, refl, sym, ap, ◌∙◌}
use Prim.Native.Nat.{ℕ}
use Rattle.std.specs.Prelude.{Result, Ok, Err}
use Rattle.refusals.specs.declared.Refused as refusals
use Rattle.refusals.proofs.Numbers.{refused_of, refused_back}
use Rattle.judging.specs.declared.judging.Verdict.{Verdict}
use Rattle.judging.specs.declared.judging.Verdict.TheVariants as verdict
use Rattle.judging.specs.Answers.{Judged, Refused, Right, WrongSet, WrongStore, judged}

abbrev answer_of : Judged → Result Verdict refusals.Refused
answer_of (Refused n at) = Err (refused_of n at)
answer_of Right = Ok verdict.Right
answer_of (WrongSet k) = Ok (verdict.WrongSet k)
answer_of WrongStore = Ok verdict.WrongStore

back : (a : Result Verdict refusals.Refused) → answer_of (judged a) ≡ a
back (Ok verdict.Right) = refl
back (Ok (verdict.WrongSet k)) = refl
back (Ok verdict.WrongStore) = refl
back (Err x) = ap Err (refused_back x)

pub judged_same : (a b : Result Verdict refusals.Refused) → judged a ≡ judged b → a ≡ b
judged_same a b e = sym (back a) ∙ (ap answer_of e ∙ back b)
