-- Two answers on two sets of a job that are told alike are one. Assumes nothing.
use mathlib.Core.Path.{◌≡◌, refl, sym, ap, ◌∙◌}
use Prim.Native.Nat.{ℕ}
use Rattle.std.specs.Prelude.{Result, Ok, Err}
use Rattle.refusals.specs.declared.Refused as refusals
use Rattle.refusals.proofs.Numbers.{refused_of, refused_back}
use Rattle.parting.specs.declared.answering.Standing.{Standing}
use Rattle.parting.specs.declared.answering.Standing.TheVariants as standing
use Rattle.parting.specs.Answers.{Parted, Refused, Equal, Smaller, Larger, parted}

abbrev answer_of : Parted → Result Standing refusals.Refused
answer_of (Refused n at) = Err (refused_of n at)
answer_of Equal = Ok standing.Equal
answer_of (Smaller r p v u) = Ok (standing.Smaller r p v u)
answer_of (Larger r p v u) = Ok (standing.Larger r p v u)

back : (a : Result Standing refusals.Refused) → answer_of (parted a) ≡ a
back (Ok standing.Equal) = refl
back (Ok (standing.Smaller r p v u)) = refl
back (Ok (standing.Larger r p v u)) = refl
back (Err x) = ap Err (refused_back x)

pub parted_same : (a b : Result Standing refusals.Refused) → parted a ≡ parted b → a ≡ b
parted_same a b e = sym (back a) ∙ (ap answer_of e ∙ back b)
