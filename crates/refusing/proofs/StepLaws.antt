-- One record looked at: by its form, then by its kind. Assumes nothing.
use mathlib.Core.Path.{◌≡◌, refl, sym, ap, ◌∙◌}
use mathlib.Core.Bool.{Bool, true}
use mathlib.Core.List.{List}
use mathlib.Core.Logic.{◌⊎◌, inl, inr, ⊎_elim}
use Prim.Native.Nat.{ℕ, zero, suc, ◌≤◌, ◌<◌}
use native.Mathlib.Omega.{arith}
use lib.ListN.{length}
use borrow.Author.Tests.{eq-eqb, ne_eqb, eqb-true}
use Rattle.laws.proofs.Cases.{same_or_not}
use Rattle.said.specs.Records.{kind, is_known, region_number}
use Rattle.said.specs.Refusals.{form_refusal, value_no, end_refusal}
use Rattle.said.specs.Sets.{first_like, has}
use Rattle.said.specs.Job.{Said, State, in_axes, Step, stop, on, unless, value_step, end_step, said_at, axes_before, is_late, kind_step, step}
use Rattle.said.proofs.RecordLaws.{form-passed}
use Rattle.said.proofs.StepLaws.{unless-stop, unless-on}
use Rattle.refusing.specs.Counts.{RecordNo}
use Rattle.refusing.specs.Counts.RecordNo.{of-form, of-region, of-sets}
use Rattle.refusing.proofs.FailedLaws.{among}

-- ---- steps that stop

pub not-stop : (s : State) (n : ℕ) → on s ≡ stop n → ⊥
not-stop s n e = let z : ◌≡◌ {A = ℕ} 0 1 = cc in omega arith

pub stop-one : (n m : ℕ) → stop n ≡ stop m → n ≡ m
stop-one n m e = cc

unless-no : (k : ℕ) (s : State) (n : ℕ) → unless k (on s) ≡ stop n → (k ≡ n) × (0 < n)
unfolding unless
unless-no zero s n e = absurd (not-stop s n e)
unless-no (suc k) s n e = let z : suc k ≡ n = cc in (z, omega arith)

unless-stops : (k : ℕ) (x : Step) (n : ℕ) → k ≡ n → 0 < n → unless k x ≡ stop n
unless-stops k x n e h = unless-stop k x (λ z. omega arith) ∙ ap stop e

-- ---- a record at its place

module _ (axes mode : ℕ) (job r : List ℕ) (i : ℕ) (s : State) where
  -- the number of its form
  abbrev pub form_told : ℕ
  form_told = form_refusal axes (axes_before axes i s) (is_late s) r

  abbrev said : Said
  said = said_at axes job i s

  pub form-stops : (n : ℕ) → form_told ≡ n → 0 < n → step axes mode job r i s ≡ stop n
  unfolding step
  form-stops n e h = unless-stops form_told (kind_step mode r said) n e h

  form-goes : form_told ≡ 0 → step axes mode job r i s ≡ kind_step mode r said
  unfolding step
  form-goes e = unless-on form_told (kind_step mode r said) e

  pub data Looks : Type 0 where
    bad : (n : ℕ) → form_told ≡ n → 0 < n → step axes mode job r i s ≡ stop n → Looks
    axis : form_told ≡ 0 → kind r ≡ 1 → step axes mode job r i s ≡ on in_axes → Looks
    value : form_told ≡ 0 → kind r ≡ 2 → step axes mode job r i s ≡ value_step r said → Looks
    set-end : form_told ≡ 0 → kind r ≡ 3 → step axes mode job r i s ≡ end_step mode said → Looks

  last-kind : is_known r ≡ true → (kind r ≡ 1 → ⊥) → (kind r ≡ 2 → ⊥) → kind r ≡ 3
  last-kind h a b = eqb-true (kind r) 3 (rw (ne_eqb (kind r) 1 a, ne_eqb (kind r) 2 b) at h)

  formed : form_told ≡ 0 → Looks
  unfolding kind_step
  formed z =
      let e = form-goes z in
      ⊎_elim (λ (a : kind r ≡ 1). axis z a (e ∙ rw (eq-eqb (kind r) 1 a)))
      (λ a. ⊎_elim (λ (b : kind r ≡ 2). value z b (e ∙ rw (ne_eqb (kind r) 1 a, eq-eqb (kind r) 2 b)))
      (λ b. set-end z (last-kind (form-passed axes (axes_before axes i s) (is_late s) r z).known a b) (e ∙ rw (ne_eqb (kind r) 1 a, ne_eqb (kind r) 2 b)))
      (same_or_not (kind r) 2))
      (same_or_not (kind r) 1)

  pub looks : Looks
  looks = go form_told refl
    where
      go : (k : ℕ) → form_told ≡ k → Looks
      go zero e = formed e
      go (suc k) e = bad (suc k) e (omega arith) (form-stops (suc k) e (omega arith))

-- ---- the numbers that a record can have

pub form-no : (axes before : ℕ) (late : Bool) (r : List ℕ) → (form_refusal axes before late r ≡ 0) ⊎ ((30 ≤ form_refusal axes before late r) × (form_refusal axes before late r ≤ 34))
unfolding form_refusal
form-no axes before late r =
    among 30 34 _ ((omega arith, omega arith), ((omega arith, omega arith), ((omega arith, omega arith), ((omega arith, omega arith), ((omega arith, omega arith), tt)))))

value-no : (r : List ℕ) (regions : ℕ) (named : Bool) → (value_no r regions named ≡ 0) ⊎ ((6 ≤ value_no r regions named) × (value_no r regions named ≤ 7))
unfolding value_no
value-no r regions named = among 6 7 _ ((omega arith, omega arith), ((omega arith, omega arith), tt))

end-no : (mode n : ℕ) → (end_refusal mode n ≡ 0) ⊎ ((9 ≤ end_refusal mode n) × (end_refusal mode n ≤ 9))
unfolding end_refusal
end-no mode n = among 9 9 _ ((omega arith, omega arith), tt)

-- the number of a value record, and of an end record
abbrev pub value_told : List ℕ → Said → ℕ
value_told r s = value_no r (length s.regions) (has (first_like s.regions (region_number r)) s.named)

pub value-told : (r : List ℕ) (s : Said) (n : ℕ) → value_step r s ≡ stop n → (value_told r s ≡ n) × (6 ≤ n) × (n ≤ 7)
unfolding value_step
value-told r s n e =
    let u = unless-no (value_told r s) _ n e in
    let a = u.0 in
    let b = u.1 in
    ⊎_elim (λ (z : value_told r s ≡ 0). absurd (omega arith)) (λ (z : (6 ≤ value_told r s) × (value_told r s ≤ 7)). let l = z.0 in let h = z.1 in (a, omega arith, omega arith))
    (value-no r (length s.regions) (has (first_like s.regions (region_number r)) s.named))

pub value-stops : (r : List ℕ) (s : Said) (n : ℕ) → value_told r s ≡ n → 0 < n → value_step r s ≡ stop n
unfolding value_step
value-stops r s n e h = unless-stops (value_told r s) _ n e h

abbrev pub end_told : ℕ → Said → ℕ
end_told mode s = end_refusal mode (length s.sets)

pub end-told : (mode : ℕ) (s : Said) (n : ℕ) → end_step mode s ≡ stop n → (end_told mode s ≡ n) × (n ≡ 9)
unfolding end_step
end-told mode s n e =
    let u = unless-no (end_told mode s) _ n e in
    let a = u.0 in
    let b = u.1 in
    ⊎_elim (λ (z : end_told mode s ≡ 0). absurd (omega arith)) (λ (z : (9 ≤ end_told mode s) × (end_told mode s ≤ 9)). let l = z.0 in let h = z.1 in (a, omega arith))
    (end-no mode (length s.sets))

pub end-stops : (mode : ℕ) (s : Said) (n : ℕ) → end_told mode s ≡ n → 0 < n → end_step mode s ≡ stop n
unfolding end_step
end-stops mode s n e h = unless-stops (end_told mode s) _ n e h

module _ (axes mode : ℕ) (job r : List ℕ) (i : ℕ) (s : State) (n : ℕ) (f : step axes mode job r i s ≡ stop n) where
  pub stop-no : RecordNo n
  stop-no = go (looks axes mode job r i s)
    where
      go : Looks axes mode job r i s → RecordNo n
      go (bad k e h g) =
          let z = stop-one k n (sym g ∙ f) in
          ⊎_elim (λ (y : form_told axes mode job r i s ≡ 0). absurd (omega arith))
          (λ (y : (30 ≤ form_told axes mode job r i s) × (form_told axes mode job r i s ≤ 34)). let l = y.0 in let m = y.1 in of-form (omega arith) (omega arith))
          (form-no axes (axes_before axes i s) (is_late s) r)
      go (axis z k e) = absurd (not-stop in_axes n (sym e ∙ f))
      go (value z k e) =
          let u = value-told r (said_at axes job i s) n (sym e ∙ f) in
          let l = u.1 in
          let h = u.2 in
          of-region (⊎_elim inl (λ d. inr (omega arith)) (same_or_not n 6))
      go (set-end z k e) = of-sets (end-told mode (said_at axes job i s) n (sym e ∙ f)).1

  -- which part answers, by its number
  pub form-only : 30 ≤ n → form_told axes mode job r i s ≡ n
  form-only low = go (looks axes mode job r i s)
    where
      go : Looks axes mode job r i s → form_told axes mode job r i s ≡ n
      go (bad k e h g) = e ∙ stop-one k n (sym g ∙ f)
      go (axis z k e) = absurd (not-stop in_axes n (sym e ∙ f))
      go (value z k e) = let u = value-told r (said_at axes job i s) n (sym e ∙ f) in let h = u.2 in absurd (omega arith)
      go (set-end z k e) = let u = end-told mode (said_at axes job i s) n (sym e ∙ f) in let h = u.1 in absurd (omega arith)

  pub value-only : n ≤ 7 → (form_told axes mode job r i s ≡ 0) × (kind r ≡ 2) × (value_told r (said_at axes job i s) ≡ n)
  value-only high = go (looks axes mode job r i s)
    where
      go : Looks axes mode job r i s → (form_told axes mode job r i s ≡ 0) × (kind r ≡ 2) × (value_told r (said_at axes job i s) ≡ n)
      go (bad k e h g) =
          let z = stop-one k n (sym g ∙ f) in
          absurd (⊎_elim (λ (y : form_told axes mode job r i s ≡ 0). omega arith)
          (λ (y : (30 ≤ form_told axes mode job r i s) × (form_told axes mode job r i s ≤ 34)). let l = y.0 in omega arith)
          (form-no axes (axes_before axes i s) (is_late s) r))
      go (axis z k e) = absurd (not-stop in_axes n (sym e ∙ f))
      go (value z k e) = (z, k, (value-told r (said_at axes job i s) n (sym e ∙ f)).0)
      go (set-end z k e) = let u = end-told mode (said_at axes job i s) n (sym e ∙ f) in let h = u.1 in absurd (omega arith)

  pub end-only : n ≡ 9 → (form_told axes mode job r i s ≡ 0) × (kind r ≡ 3) × (end_told mode (said_at axes job i s) ≡ n)
  end-only nine = go (looks axes mode job r i s)
    where
      go : Looks axes mode job r i s → (form_told axes mode job r i s ≡ 0) × (kind r ≡ 3) × (end_told mode (said_at axes job i s) ≡ n)
      go (bad k e h g) =
          let z = stop-one k n (sym g ∙ f) in
          absurd (⊎_elim (λ (y : form_told axes mode job r i s ≡ 0). omega arith)
          (λ (y : (30 ≤ form_told axes mode job r i s) × (form_told axes mode job r i s ≤ 34)). let l = y.0 in omega arith)
          (form-no axes (axes_before axes i s) (is_late s) r))
      go (axis z k e) = absurd (not-stop in_axes n (sym e ∙ f))
      go (value z k e) = let u = value-told r (said_at axes job i s) n (sym e ∙ f) in let h = u.2 in absurd (omega arith)
      go (set-end z k e) = (z, k, (end-told mode (said_at axes job i s) n (sym e ∙ f)).0)
