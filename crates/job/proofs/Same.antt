-- Two answers of looking at a job that are told alike are one. Assumes nothing.
use mathlib.Core.Path.{◌≡◌, refl, sym, ap, ap₂, ◌∙◌}
use Prim.Native.Nat.{ℕ}
use Rattle.std.specs.Prelude.{Result, Ok, Err}
use Rattle.refusals.specs.declared.Refused.{Refused}
use Rattle.refusals.proofs.Numbers.{refused_of, refused_back}
use Rattle.job.specs.declared.whole.JobCounts.{JobCounts}
use Rattle.job.specs.Check.{Checked, turned_down, sound, checked, uses_in}

abbrev answer_of : Checked → ℕ → Result JobCounts Refused
answer_of (turned_down n at) uses = Err (refused_of n at)
answer_of (sound g s v) uses = Ok (record { regions = g; sets = s; values = v; uses = uses })

back : (a : Result JobCounts Refused) → answer_of (checked a) (uses_in a) ≡ a
unfolding checked uses_in
back (Ok c) = refl
back (Err x) = ap Err (refused_back x)

pub checked_same : (a b : Result JobCounts Refused) → checked a ≡ checked b → uses_in a ≡ uses_in b → a ≡ b
checked_same a b e u = sym (back a) ∙ (ap₂ answer_of e u ∙ back b)
