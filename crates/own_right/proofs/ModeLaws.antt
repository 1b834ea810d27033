-- A job that is sound in either mode is sound in mode 0, and says the same. Assumes nothing.
use mathlib.Core.Path.{◌≡◌, refl, sym, ◌∙◌}
use mathlib.Core.Bool.{Bool, true, false}
use mathlib.Core.List.{List}
use mathlib.Core.Logic.{⊎_elim}
use Prim.Native.Nat.{ℕ, zero, suc, ◌+◌, ◌≤◌}
use native.Mathlib.Omega.{arith}
use lib.ListN.{length}
use Rattle.laws.specs.Pick.{pick}
use Rattle.laws.proofs.Cases.{same_or_not}
use Rattle.said.specs.Records.{after_record, is_axis, is_value}
use Rattle.said.specs.Refusals.{form_refusal, end_refusal}
use Rattle.said.specs.Job.{Said, State, Step, stop, on, unless, after_end, end_step, kind_step, value_step, in_axes, in_sets, said_at, axes_before, is_late, step, fine, follow, records_from}
use Rattle.said.proofs.RecordLaws.{end-free}

end-down : (s : Said) (t : State) → end_step 1 s ≡ on t → end_step 0 s ≡ on t
unfolding end_step unless
end-down s t e = go (end_refusal 1 (length s.sets)) e ∙ refl
  where
    free : end_refusal 0 (length s.sets) ≡ 0
    free = sym (end-free 0 (length s.sets) (λ z. omega arith))

    go : (n : ℕ) → unless n (on (in_sets (after_end s))) ≡ on t → unless (end_refusal 0 (length s.sets)) (on (in_sets (after_end s))) ≡ on t
    go zero h = rw free h
    go (suc n) h = let z : ◌≡◌ {A = ℕ} 0 1 = cc in absurd (omega arith)

pick-down : (a v : Bool) (x y : Step) (m n : Step) (t : State) → (m ≡ on t → n ≡ on t) → pick a x (pick v y m) ≡ on t → pick a x (pick v y n) ≡ on t
pick-down true v x y m n t h e = e
pick-down false true x y m n t h e = e
pick-down false false x y m n t h e = h e

step_down : (axes : ℕ) (job r : List ℕ) (i : ℕ) (s t : State) → step axes 1 job r i s ≡ on t → step axes 0 job r i s ≡ on t
unfolding step unless kind_step
step_down axes job r i s t e = go (form_refusal axes (axes_before axes i s) (is_late s) r) e
  where
    go : (n : ℕ) → unless n (kind_step 1 r (said_at axes job i s)) ≡ on t → unless n (kind_step 0 r (said_at axes job i s)) ≡ on t
    go zero h = pick-down (is_axis r) (is_value r) (on in_axes) (value_step r (said_at axes job i s)) (end_step 1 (said_at axes job i s)) (end_step 0 (said_at axes job i s)) t (end-down (said_at axes job i s) t) h
    go (suc n) h = let z : ◌≡◌ {A = ℕ} 0 1 = cc in absurd (omega arith)

records-down : (axes : ℕ) (job : List ℕ) (left : ℕ) (rest : List ℕ) (i : ℕ) (s : State) (x : Said)
    → records_from axes 1 job rest left i s ≡ fine x → records_from axes 0 job rest left i s ≡ fine x
unfolding records_from follow
records-down axes job zero rest i s x e = e
records-down axes job (suc left) rest i s x e = go (step axes 1 job rest i s) refl e (λ t. records-down axes job left (after_record rest) (i + 1) t x)
  where
    go : (p : Step) → step axes 1 job rest i s ≡ p → follow i p (λ t. records_from axes 1 job (after_record rest) left (i + 1) t) ≡ fine x
        → ((t : State) → records_from axes 1 job (after_record rest) left (i + 1) t ≡ fine x → records_from axes 0 job (after_record rest) left (i + 1) t ≡ fine x)
        → follow i (step axes 0 job rest i s) (λ t. records_from axes 0 job (after_record rest) left (i + 1) t) ≡ fine x
    go (stop n) f h rec = let z : ◌≡◌ {A = ℕ} 0 1 = cc in absurd (omega arith)
    go (on t) f h rec = rw (step_down axes job rest i s t f) (rec t h)

pub in-mode-zero : (axes mode : ℕ) (job : List ℕ) (left : ℕ) (x : Said) → mode ≤ 1 → records_from axes mode job job left 0 in_axes ≡ fine x
    → records_from axes 0 job job left 0 in_axes ≡ fine x
in-mode-zero axes mode job left x h e = ⊎_elim
    (λ (z : mode ≡ 0). rw z at e)
    (λ d. let z : mode ≡ 1 = omega arith in records-down axes job left job 0 in_axes x (rw z at e))
    (same_or_not mode 0)
