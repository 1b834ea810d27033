-- One record, as it was read and as it is. Assumes nothing.
use mathlib.Core.Path.{◌≡◌, refl, sym, ◌∙◌}
use mathlib.Core.Bool.{Bool, true, false}
use mathlib.Core.List.{List, ◌∷◌}
use mathlib.Core.Logic.{◌⊎◌, inl, inr, ⊎_elim}
use Prim.Native.Nat.{ℕ, zero, suc, ◌<◌}
use native.Mathlib.Omega.{arith}
use lib.ListN.{get_or}
use borrow.Author.Tests.{eq-eqb, ne_eqb, lt-ltb}
use Rattle.laws.proofs.Cases.{same_or_not}
use Rattle.limits.specs.Limits.{max_regions}
use Rattle.said.specs.Records.{kind, axis_kind, value_kind, is_known, region_number, must_be_zero, first_not_zero, first_wrong_byte}
use Rattle.said.specs.Refusals.{not_zero, first_failed, in_turn, form_refusal, value_no}
use Rattle.said.specs.Job.{Said, State, Step, stop, unless, value_step, said_at, axes_before, is_late, kind_step, step}
use Rattle.said.proofs.RecordLaws.{form-passed}
use Rattle.one_byte.specs.OneByte.{one_region, one_zeros, one_wrong, one_turn, one_form, one_value_no, one_value, one_kind, one_step}
use Rattle.one_byte.specs.Together.{UsesByte, SameByte}

-- ---- the byte that is named

module _ (r : List ℕ) where
  -- byte 3 is not used: the same bytes are asked for
  unused : (get_or r 3 0 ≡ 0) ⊎ ((kind r ≡ axis_kind → ⊥) × (kind r ≡ value_kind → ⊥)) → first_wrong_byte r ≡ one_wrong r
  unfolding first_wrong_byte one_wrong must_be_zero one_zeros first_not_zero
  unused h =
      ⊎_elim (λ (z : get_or r 3 0 ≡ 0).
      ⊎_elim (λ (k : kind r ≡ axis_kind). rw (k, eq-eqb (get_or r 3 0) 0 z))
      (λ a. ⊎_elim (λ (k : kind r ≡ value_kind). rw (k, eq-eqb (get_or r 3 0) 0 z)) (λ v. rw (ne_eqb (kind r) axis_kind a, ne_eqb (kind r) value_kind v)) (same_or_not (kind r) value_kind))
      (same_or_not (kind r) axis_kind))
      (λ (n : (kind r ≡ axis_kind → ⊥) × (kind r ≡ value_kind → ⊥)). rw (ne_eqb (kind r) axis_kind n.0, ne_eqb (kind r) value_kind n.1))
      h

  axis-three : kind r ≡ axis_kind → (get_or r 3 0 ≡ 0 → ⊥) → one_wrong r ≡ 3
  unfolding one_wrong one_zeros first_not_zero
  axis-three k d = rw (k, ne_eqb (get_or r 3 0) 0 d)

  value-three : kind r ≡ value_kind → (get_or r 3 0 ≡ 0 → ⊥) → get_or r 2 0 ≡ 0 → one_wrong r ≡ 3
  unfolding one_wrong one_zeros first_not_zero
  value-three k d z = rw (k, eq-eqb (get_or r 2 0) 0 z, ne_eqb (get_or r 3 0) 0 d)

  value-two : kind r ≡ value_kind → (get_or r 2 0 ≡ 0 → ⊥) → (first_wrong_byte r ≡ 2) × (one_wrong r ≡ 2)
  unfolding first_wrong_byte one_wrong must_be_zero one_zeros first_not_zero
  value-two k d = (rw (k, ne_eqb (get_or r 2 0) 0 d), rw (k, ne_eqb (get_or r 2 0) 0 d))

  -- THE LAW of the byte
  pub same_byte : SameByte r
  same_byte =
      ⊎_elim (λ (z : get_or r 3 0 ≡ 0). inl (unused (inl z)))
      (λ d. ⊎_elim (λ (k : kind r ≡ axis_kind). inr (record { of-region = inl k; high = d }, axis-three k d))
      (λ a. ⊎_elim (λ (k : kind r ≡ value_kind).
      ⊎_elim (λ (z : get_or r 2 0 ≡ 0). inr (record { of-region = inr k; high = d }, value-three k d z))
      (λ n. let t = value-two k n in inl (t.0 ∙ sym t.1))
      (same_or_not (get_or r 2 0) 0))
      (λ v. inl (unused (inr (a, v))))
      (same_or_not (kind r) value_kind))
      (same_or_not (kind r) axis_kind))
      (same_or_not (get_or r 3 0) 0)

  -- a record that uses the byte had a wrong one
  pub uses-wrong : UsesByte r → one_wrong r ≡ 0 → ⊥
  uses-wrong u z =
      ⊎_elim (λ (k : kind r ≡ axis_kind). let e = axis-three k u.high in omega arith)
      (λ (k : kind r ≡ value_kind).
      ⊎_elim (λ (y : get_or r 2 0 ≡ 0). let e = value-three k u.high y in omega arith) (λ d. let e = (value-two k d).1 in omega arith) (same_or_not (get_or r 2 0) 0))
      u.of-region

  -- where none was wrong its region's number is the same
  pub same-region : (kind r ≡ axis_kind) ⊎ (kind r ≡ value_kind) → one_wrong r ≡ 0 → region_number r ≡ one_region r
  same-region k z =
      ⊎_elim (λ (y : get_or r 3 0 ≡ 0). omega arith) (λ d. absurd (uses-wrong (record { of-region = k; high = d }) z)) (same_or_not (get_or r 3 0) 0)

-- ---- the form

module _ (axes before : ℕ) (late : Bool) (r : List ℕ) (low : get_or r 1 0 < 256) where
  -- a byte as a region's number is below the limit, so that the limit changes nothing
  turn-same : kind r ≡ axis_kind → one_wrong r ≡ 0 → in_turn axes before r ≡ one_turn axes before r
  unfolding in_turn one_turn
  turn-same k z =
      let e = same-region r (inl k) z in
      rw (lt-ltb (region_number r) max_regions (omega arith), e)

  pub form-same : first_wrong_byte r ≡ one_wrong r → form_refusal axes before late r ≡ one_form axes before late r
  unfolding form_refusal one_form
  form-same e =
      ⊎_elim (λ (z : one_wrong r ≡ 0).
      ⊎_elim (λ (k : kind r ≡ axis_kind). rw (e, turn-same k z))
      (λ a. rw (e, ne_eqb (kind r) axis_kind a))
      (same_or_not (kind r) axis_kind))
      (λ d. rw (e, ne_eqb (one_wrong r) 0 d) (wrong-both (is_known r) _ _))
      (same_or_not (one_wrong r) 0)
    where
      wrong-both : (b : Bool) (l m : List (Bool × ℕ)) → first_failed ((b, 30) ∷ (false, not_zero) ∷ l) ≡ first_failed ((b, 30) ∷ (false, not_zero) ∷ m)
      wrong-both b l m = unfold first_failed in refl

-- a record that uses the byte is stopped by its form
form-uses : (axes before : ℕ) (late : Bool) (r : List ℕ) → UsesByte r → one_form axes before late r ≡ not_zero
unfolding one_form first_failed
form-uses axes before late r u = rw (known u.of-region, ne_eqb (one_wrong r) 0 (uses-wrong r u))
  where
    known : (kind r ≡ axis_kind) ⊎ (kind r ≡ value_kind) → is_known r ≡ true
    known o = ⊎_elim (λ (k : kind r ≡ axis_kind). rw k) (λ (k : kind r ≡ value_kind). rw k) o

form-clean : (axes before : ℕ) (late : Bool) (r : List ℕ) → first_wrong_byte r ≡ one_wrong r → form_refusal axes before late r ≡ 0 → one_wrong r ≡ 0
form-clean axes before late r e z = sym e ∙ (form-passed axes before late r z).zeros

-- ---- the step

unless-same : (n m : ℕ) (x y : Step) → n ≡ m → (n ≡ 0 → x ≡ y) → unless n x ≡ unless m y
unfolding unless
unless-same zero m x y e h = rw (← e) (h refl)
unless-same (suc n) m x y e h = rw (← e)

value_same : (r : List ℕ) (s : Said) → region_number r ≡ one_region r → value_step r s ≡ one_value r s
unfolding value_step one_value value_no one_value_no
value_same r s e = rw e

module _ (axes mode : ℕ) (job r : List ℕ) (i : ℕ) (s : State) where
  kind-same : one_wrong r ≡ 0 → (t : Said) → kind_step mode r t ≡ one_kind mode r t
  unfolding kind_step one_kind
  kind-same z t =
      ⊎_elim (λ (k : kind r ≡ value_kind). rw (value_same r t (same-region r (inr k) z)))
      (λ v. rw (ne_eqb (kind r) value_kind v))
      (same_or_not (kind r) value_kind)

  -- THE LAWS of one record
  pub step_same : get_or r 1 0 < 256 → first_wrong_byte r ≡ one_wrong r → step axes mode job r i s ≡ one_step axes mode job r i s
  unfolding step one_step
  step_same low e =
      unless-same (form_refusal axes (axes_before axes i s) (is_late s) r) (one_form axes (axes_before axes i s) (is_late s) r)
      (kind_step mode r (said_at axes job i s)) (one_kind mode r (said_at axes job i s))
      (form-same axes (axes_before axes i s) (is_late s) r low e)
      (λ z. kind-same (form-clean axes (axes_before axes i s) (is_late s) r e z) (said_at axes job i s))

  pub step-uses : UsesByte r → one_step axes mode job r i s ≡ stop not_zero
  unfolding one_step unless
  step-uses u = rw (form-uses axes (axes_before axes i s) (is_late s) r u)
