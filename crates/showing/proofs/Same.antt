-- Two answers of what shows an id that are told alike are one. Assumes nothing.
use mathlib.Core.Path.{◌≡◌, refl, sym, ap, ◌∙◌}
use Prim.Native.Nat.{ℕ}
use Rattle.std.specs.Prelude.{Result, Ok, Err}
use Rattle.refusals.specs.declared.Refused as refusals
use Rattle.refusals.proofs.Numbers.{refused_of, refused_back}
use Rattle.showing.specs.declared.found.Part.{Part}
use Rattle.showing.specs.declared.found.Part.TheVariants as part
use Rattle.showing.specs.Answers.{Shown, Refused, InJob, InStore, shown_of}

abbrev answer_of : Shown → Result Part refusals.Refused
answer_of (Refused n at) = Err (refused_of n at)
answer_of (InJob at long) = Ok (part.InJob at long)
answer_of (InStore at long) = Ok (part.InStore at long)

back : (a : Result Part refusals.Refused) → answer_of (shown_of a) ≡ a
back (Ok (part.InJob at long)) = refl
back (Ok (part.InStore at long)) = refl
back (Err x) = ap Err (refused_back x)

pub shown_same : (a b : Result Part refusals.Refused) → shown_of a ≡ shown_of b → a ≡ b
shown_same a b e = sym (back a) ∙ (ap answer_of e ∙ back b)
