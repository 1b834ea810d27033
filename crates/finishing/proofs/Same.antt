-- Two answers of a build that are told alike are one. Assumes nothing.
use mathlib.Core.Path.{◌≡◌, refl, sym, ap, ◌∙◌}
use Prim.Native.Nat.{ℕ}
use Rattle.std.specs.Prelude.{Result, Ok, Err}
use Rattle.refusals.specs.declared.Refused as refusals
use Rattle.refusals.proofs.Numbers.{refused_of, refused_back}
use Rattle.finishing.specs.declared.answers.Report.{Report}
use Rattle.finishing.specs.Answers.{Built, Refused, Done, built}

abbrev answer_of : Built → Result Report refusals.Refused
answer_of (Refused n at) = Err (refused_of n at)
answer_of (Done d) = Ok d

back : (a : Result Report refusals.Refused) → answer_of (built a) ≡ a
back (Ok d) = refl
back (Err x) = ap Err (refused_back x)

pub built_same : (a b : Result Report refusals.Refused) → built a ≡ built b → a ≡ b
built_same a b e = sym (back a) ∙ (ap answer_of e ∙ back b)
