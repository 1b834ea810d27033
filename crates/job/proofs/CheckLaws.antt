-- Laws of looking at a job. Assumes nothing.
use mathlib.Core.Path.{◌≡◌, refl, sym, ap, ◌∙◌, subst}
use mathlib.Core.List.{List}
use Prim.Native.Nat.{ℕ, zero, suc, ◌*◌, ◌≤◌}
use native.Mathlib.Omega.{arith}
use lib.ListN.{length, replicate}
use borrow.Author.Tests.{ne_eqb}
use Rattle.sets.proofs.HeldLaws.{sets-length}
use Rattle.said.specs.Records.{record_count}
use Rattle.said.specs.Work.{regions_at_head}
use Rattle.said.specs.Refusals.{early_refusal}
use Rattle.said.proofs.WorkLaws.{work-records}
use Rattle.said.specs.Job.{Outcome, in_axes, records_from, outcome_from, outcome}
use Rattle.said.specs.Job.{refused}
use Rattle.job.specs.Lent.{JobHeld, JobRead}
use Rattle.said.specs.LentOpen.{Open}
use Rattle.job.specs.Check.{checked, checked_of, uses_in, uses_of, work_left}
use Rattle.std.specs.Prelude.{Result, Ok, Err}
use Rattle.refusals.specs.declared.Refusal.{Refusal}
use Rattle.refusals.specs.declared.Refused.{Refused}
use Rattle.refusals.specs.Refusals.{number}
use Rattle.refusals.proofs.Numbers.{some_number}
use Rattle.job.specs.declared.whole.JobCounts.{JobCounts}

-- a refusal by the numbers answers, else the records do
pub early-first : (n : ℕ) (o : Outcome) → (n ≡ 0 → ⊥) → outcome_from n o ≡ refused n 0
unfolding outcome_from
early-first zero o h = absurd (h refl)
early-first (suc n) o h = refl

pub none-early : (n : ℕ) (o : Outcome) → n ≡ 0 → outcome_from n o ≡ o
unfolding outcome_from
none-early zero o h = refl
none-early (suc n) o h = absurd (omega arith)

-- the published work has the words of the tables
pub room : (axes mode : ℕ) (job : List ℕ) (work pairs : ℕ) → Open axes mode job work pairs → 16 * record_count job ≤ work
room axes mode job work pairs o = omega (arith, o.enough, work-records (record_count job) (regions_at_head axes job))

module _ (axes mode : ℕ) (job w : List ℕ) (pairs : ℕ) where
  module _ (x : Refusal) (e : number x ≡ early_refusal axes mode job (length w) pairs) where
    pub refused-early : outcome axes mode job (length w) pairs ≡ refused (number x) 0
    unfolding outcome
    refused-early = ap (λ k. outcome_from k (records_from axes mode job job (record_count job) 0 in_axes)) (sym e) ∙ early-first (number x) _ (some_number x)

    pub left-early : w ≡ work_left axes mode job pairs w
    unfolding work_left
    left-early = rw (← e, ne_eqb (number x) 0 (some_number x)) refl

  module _ (e : 0 ≡ early_refusal axes mode job (length w) pairs) where
    pub left-zeros : (w' : List ℕ) → w' ≡ replicate (length w) 0 → w' ≡ work_left axes mode job pairs w
    unfolding work_left
    left-zeros w' c = c ∙ rw (← e) refl

    pub outcome-walk : outcome axes mode job (length w) pairs ≡ records_from axes mode job job (record_count job) 0 in_axes
    unfolding outcome
    outcome-walk = none-early _ _ (sym e)

    pub checked_as : {w' : List ℕ} (r : Result JobCounts Refused) {records : ℕ} → records ≡ record_count job → JobRead axes mode job records w w' r
        → checked r ≡ checked_of (outcome axes mode job (length w) pairs)
    unfolding checked checked_of
    checked_as (Err x) q read =
        let walk = subst (λ k. records_from axes mode job job k 0 in_axes ≡ refused (number x.refusal) x.place) q read.is in
        sym (ap checked_of (outcome-walk ∙ walk))
    checked_as {w'} (Ok c) {records} q read =
        let g = subst (λ k. JobHeld axes mode job k w' c) q read.is in
        let l : length g.said.sets ≡ c.sets = ap length (sym g.sets-are) ∙ sets-length 0 c.sets w' in
        sym (ap checked_of (outcome-walk ∙ g.is) ∙ rw (g.regions-are, l, g.values-are) refl)

    pub uses_as : {w' : List ℕ} (r : Result JobCounts Refused) {records : ℕ} → records ≡ record_count job → JobRead axes mode job records w w' r
        → uses_in r ≡ uses_of (outcome axes mode job (length w) pairs)
    unfolding uses_in uses_of
    uses_as (Err x) q read =
        let walk = subst (λ k. records_from axes mode job job k 0 in_axes ≡ refused (number x.refusal) x.place) q read.is in
        sym (ap uses_of (outcome-walk ∙ walk))
    uses_as {w'} (Ok c) {records} q read =
        let g = subst (λ k. JobHeld axes mode job k w' c) q read.is in
        sym (ap uses_of (outcome-walk ∙ g.is) ∙ g.uses-are)
