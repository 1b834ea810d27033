-- Two answers why ids are where they are that are told alike are one. Assumes nothing.
use mathlib.Core.Path.{◌≡◌, refl, sym, ap, ◌∙◌}
use Prim.Native.Nat.{ℕ}
use Rattle.std.specs.Prelude.{Result, Ok, Err}
use Rattle.refusals.specs.declared.Refused as refusals
use Rattle.refusals.proofs.Numbers.{refused_of, refused_back}
use Rattle.why_words.specs.declared.explained.Explained.{Explained}
use Rattle.why_words.specs.declared.explained.Explained.TheVariants as explained
use Rattle.why_words.specs.Answers.{Why, Refused, Same, CutApart, NeverJoined, why_of}

abbrev answer_of : Why → Result Explained refusals.Refused
answer_of (Refused n at) = Err (refused_of n at)
answer_of Same = Ok explained.Same
answer_of CutApart = Ok explained.CutApart
answer_of (NeverJoined a b j) = Ok (explained.NeverJoined a b j)

back : (a : Result Explained refusals.Refused) → answer_of (why_of a) ≡ a
back (Ok explained.Same) = refl
back (Ok explained.CutApart) = refl
back (Ok (explained.NeverJoined a b j)) = refl
back (Err x) = ap Err (refused_back x)

pub why_same : (a b : Result Explained refusals.Refused) → why_of a ≡ why_of b → a ≡ b
why_same a b e = sym (back a) ∙ (ap answer_of e ∙ back b)
