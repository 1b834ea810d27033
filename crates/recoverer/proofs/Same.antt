-- Two answers of reading a store back that are told alike are one. Assumes nothing.
use mathlib.Core.Path.{◌≡◌, refl, sym, ap, ◌∙◌}
use Prim.Native.Nat.{ℕ}
use Rattle.std.specs.Prelude.{Result, Ok, Err}
use Rattle.refusals.specs.declared.Refusal.{Refusal}
use Rattle.refusals.proofs.Numbers as numbers
use Rattle.recoverer.specs.declared.RecoveredCounts.{RecoveredCounts}
use Rattle.recoverer.specs.Answers.{Recovered, Done, Refused, recovered}

abbrev answer_of : Recovered → Result RecoveredCounts Refusal
answer_of (Done b a g s) = Ok (record { bytes = b; axes = a; regions = g; sets = s })
answer_of (Refused n) = Err (numbers.refusal_of n)

back : (a : Result RecoveredCounts Refusal) → answer_of (recovered a) ≡ a
back (Ok c) = refl
back (Err r) = ap Err (numbers.back r)

pub recovered_same : (a b : Result RecoveredCounts Refusal) → recovered a ≡ recovered b → a ≡ b
recovered_same a b e = sym (back a) ∙ (ap answer_of e ∙ back b)
