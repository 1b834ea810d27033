-- Two answers of keeping rows that are told alike are one. Assumes nothing.
use mathlib.Core.Path.{◌≡◌, refl, sym, ap, ◌∙◌}
use Prim.Native.Nat.{ℕ}
use Rattle.std.specs.Prelude.{Result, Ok, Err}
use Rattle.refusals.specs.declared.Refusal.{Refusal}
use Rattle.refusals.proofs.Numbers as numbers
use Rattle.keeping.specs.declared.KeptCounts.{KeptCounts}
use Rattle.keeping.specs.Answers.{Kept, Done, Refused, kept}

abbrev answer_of : Kept → Result KeptCounts Refusal
answer_of (Done b t g r) = Ok (record { bytes = b; tables = t; regions = g; rows = r })
answer_of (Refused n) = Err (numbers.refusal_of n)

back : (a : Result KeptCounts Refusal) → answer_of (kept a) ≡ a
back (Ok c) = refl
back (Err r) = ap Err (numbers.back r)

pub kept_same : (a b : Result KeptCounts Refusal) → kept a ≡ kept b → a ≡ b
kept_same a b e = sym (back a) ∙ (ap answer_of e ∙ back b)
