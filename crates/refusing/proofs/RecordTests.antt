-- The tests of one record: which of them answers. In the order T2. Assumes nothing.
use mathlib.Core.Path.{◌≡◌, refl, sym, ap, ◌∙◌}
use mathlib.Core.Bool.{Bool, true, false, not, ◌&&◌, ◌||◌}
use mathlib.Core.List.{List, [], ◌∷◌}
use mathlib.Core.Logic.{◌⊎◌, inl, inr, ⊎_elim}
use Prim.Native.Nat.{ℕ, ◌/◌, ◌%◌, ◌≤◌, ◌<◌}
use native.Mathlib.Omega.{arith}
use lib.ListN.{length}
use lib.Dec.{eqb, ltb}
use borrow.Author.Tests.{eq-eqb, ne_eqb, eqb-true, eqb-false, ltb-true, ltb-false, lt-ltb, le-ltb, not-false}
use Rattle.laws.proofs.Cases.{and-true, or-neither, same_or_not, true-false}
use Rattle.limits.specs.Limits.{max_regions}
use Rattle.said.specs.Records.{kind, is_axis, is_known, must_be_zero, first_wrong_byte, region_number, axis_of}
use Rattle.said.specs.Refusals.{first_failed, in_turn, form_refusal, value_no, end_refusal}
use Rattle.said.specs.Sets.{first_like, has}
use Rattle.said.specs.Job.{Said}
use Rattle.said.proofs.RecordLaws.{form-unknown, form-zero, form-turn, form-late, form-part, form-set, form-passed}
use Rattle.refusing.specs.Exactly.{Exactly}
use Rattle.refusing.specs.Counts.{AllZero, UnknownKind, NotZeroAt}
use Rattle.refusing.proofs.FailedLaws.{Tests, this, failed, other, later, passed, and_both, asked-fails, asked-holds}
use Rattle.refusing.proofs.StepLaws.{value_told, end_told}
use Rattle.refusing.proofs.ZeroLaws.{zeros-all, all-zeros, zeros-not, not_zeros}

-- ---- kinds

module _ (r : List ℕ) where
  axis-known : kind r ≡ 1 → is_known r ≡ true
  axis-known k = rw (eq-eqb (kind r) 1 k)

  not-axis : (kind r ≡ 2) ⊎ (kind r ≡ 3) → kind r ≡ 1 → ⊥
  not-axis v a = ⊎_elim (λ (e : kind r ≡ 2). omega arith) (λ (e : kind r ≡ 3). omega arith) v

  set_known : (kind r ≡ 2) ⊎ (kind r ≡ 3) → is_known r ≡ true
  set_known v =
      ⊎_elim (λ (e : kind r ≡ 2). rw (ne_eqb (kind r) 1 (not-axis v), eq-eqb (kind r) 2 e))
      (λ (e : kind r ≡ 3). rw (ne_eqb (kind r) 1 (not-axis v), ne_eqb (kind r) 2 (λ (z : kind r ≡ 2). omega arith), eq-eqb (kind r) 3 e)) v

  known-set : is_known r ≡ true → is_axis r ≡ false → (kind r ≡ 2) ⊎ (kind r ≡ 3)
  known-set h a =
      ⊎_elim inl (λ b. inr (eqb-true (kind r) 3 (rw (a, ne_eqb (kind r) 2 b) at h))) (same_or_not (kind r) 2)

  unknown-is : Exactly (is_known r ≡ false) (UnknownKind r)
  unknown-is = record {
    given = λ u. rw (ne_eqb (kind r) 1 u.no-axis, ne_eqb (kind r) 2 u.no_value, ne_eqb (kind r) 3 u.no_end);
    only = λ e. record { no-axis = λ k. true-false (axis-known k) e; no_value = λ k. true-false (set_known (inl k)) e; no_end = λ k. true-false (set_known (inr k)) e };
  }

  -- a record of no known kind has no bytes that must be 0
  must-known : (b : ℕ) → has b (must_be_zero (kind r)) ≡ true → is_known r ≡ true
  unfolding must_be_zero has
  must-known b h =
      ⊎_elim axis-known
      (λ a. ⊎_elim (λ k. set_known (inl k))
      (λ v. ⊎_elim (λ k. set_known (inr k))
      (λ d. absurd (true-false (rw (ne_eqb (kind r) 1 a, ne_eqb (kind r) 2 v, ne_eqb (kind r) 3 d) at h) refl))
      (same_or_not (kind r) 3))
      (same_or_not (kind r) 2))
      (same_or_not (kind r) 1)

-- ---- the form

pub turn_is : (axes before : ℕ) (r : List ℕ)
    → Exactly (in_turn axes before r ≡ true) ((region_number r < max_regions) × (region_number r ≡ before / axes) × (axis_of r ≡ before % axes))
unfolding in_turn
turn_is axes before r = record {
  given = λ b. and_both (ltb (region_number r) max_regions) next (lt-ltb (region_number r) max_regions b.0)
      (and_both (eqb (region_number r) (before / axes)) (eqb (axis_of r) (before % axes)) (eq-eqb (region_number r) (before / axes) b.1) (eq-eqb (axis_of r) (before % axes) b.2));
  only = λ e.
      let f = and-true (ltb (region_number r) max_regions) next e in
      let p = and-true (eqb (region_number r) (before / axes)) (eqb (axis_of r) (before % axes)) f.1 in
      (ltb-true (region_number r) max_regions f.0, eqb-true (region_number r) (before / axes) p.0, eqb-true (axis_of r) (before % axes) p.1);
}
  where
    next : Bool
    next = eqb (region_number r) (before / axes) && eqb (axis_of r) (before % axes)

module _ (axes before : ℕ) (late : Bool) (r : List ℕ) where
  abbrev number : ℕ
  number = form_refusal axes before late r

  abbrev at34 : Tests
  at34 = (is_axis r || eqb (before % axes) 0, 34) ∷ []

  abbrev at33 : Tests
  at33 = (not (is_axis r) || not late, 33) ∷ at34

  abbrev at32 : Tests
  at32 = (not (is_axis r) || in_turn axes before r, 32) ∷ at33

  abbrev at31 : Tests
  at31 = (eqb (first_wrong_byte r) 0, 31) ∷ at32

  form-is : number ≡ first_failed ((is_known r, 30) ∷ at31)
  unfolding form_refusal
  form-is = refl

  -- what passes before a number above 30, 31, 32, 33
  module _ (n : ℕ) (e : number ≡ n) where
    past30 : (30 ≡ n → ⊥) → (is_known r ≡ true) × (first_failed at31 ≡ n)
    past30 d = let f = sym form-is ∙ e in (other 30 at31 n (is_known r) d f, later 30 at31 n (is_known r) d f)

    past31 : (30 ≡ n → ⊥) → (31 ≡ n → ⊥) → AllZero r × (first_failed at32 ≡ n)
    past31 d d' =
        let f = (past30 d).1 in
        (zeros-all r (eqb-true (first_wrong_byte r) 0 (other 31 at32 n (eqb (first_wrong_byte r) 0) d' f)), later 31 at32 n (eqb (first_wrong_byte r) 0) d' f)

    past32 : (30 ≡ n → ⊥) → (31 ≡ n → ⊥) → (32 ≡ n → ⊥) → (is_axis r ≡ true → in_turn axes before r ≡ true) × (first_failed at33 ≡ n)
    past32 d d' d'' =
        let t = not (is_axis r) || in_turn axes before r in
        let f = (past31 d d').1 in
        (asked-holds (is_axis r) (in_turn axes before r) (other 32 at33 n t d'' f), later 32 at33 n t d'' f)

    past33 : (30 ≡ n → ⊥) → (31 ≡ n → ⊥) → (32 ≡ n → ⊥) → (33 ≡ n → ⊥) → first_failed at34 ≡ n
    past33 d d' d'' d''' = later 33 at34 n (not (is_axis r) || not late) d''' (past32 d d' d'').1

  pub form-kind : Exactly (number ≡ 30) (UnknownKind r)
  form-kind = record {
    given = λ u. sym (form-unknown axes before late r ((unknown-is r).given u));
    only = λ e. (unknown-is r).only (this 30 at31 (is_known r) (omega arith) (omega arith, (omega arith, (omega arith, (omega arith, tt)))) (sym form-is ∙ e));
  }

  pub form-byte : Exactly (number ≡ 31) (NotZeroAt r (first_wrong_byte r))
  form-byte = record {
    given = λ n. let s = (not_zeros r (first_wrong_byte r) n).1 in sym (form-zero axes before late r (must-known r (first_wrong_byte r) n.must) (λ z. omega arith));
    only = λ e.
        let f = (past30 31 e (λ z. omega arith)).1 in
        zeros-not r (eqb-false (first_wrong_byte r) 0 (this 31 at32 (eqb (first_wrong_byte r) 0) (omega arith) (omega arith, (omega arith, (omega arith, tt))) f));
  }

  pub form-out : Exactly (number ≡ 32) ((kind r ≡ 1) × AllZero r × (in_turn axes before r ≡ false))
  form-out = record {
    given = λ b. sym (form-turn axes before late r (axis-known r b.0) (all-zeros r b.1) (eq-eqb (kind r) 1 b.0) b.2);
    only = λ e.
        let a = past31 32 e (λ z. omega arith) (λ z. omega arith) in
        let f = asked-fails (is_axis r) (in_turn axes before r) (this 32 at33 (not (is_axis r) || in_turn axes before r) (omega arith) (omega arith, (omega arith, tt)) a.1) in
        (eqb-true (kind r) 1 f.0, a.0, f.1);
  }

  pub form-too-late : Exactly (number ≡ 33) ((kind r ≡ 1) × AllZero r × (in_turn axes before r ≡ true) × (late ≡ true))
  form-too-late = record {
    given = λ b. sym (form-late axes before late r (axis-known r b.0) (all-zeros r b.1) (eq-eqb (kind r) 1 b.0) b.2 b.3);
    only = λ e.
        let a = past31 33 e (λ z. omega arith) (λ z. omega arith) in
        let c = past32 33 e (λ z. omega arith) (λ z. omega arith) (λ z. omega arith) in
        let f = asked-fails (is_axis r) (not late) (this 33 at34 (not (is_axis r) || not late) (omega arith) (omega arith, tt) c.1) in
        (eqb-true (kind r) 1 f.0, a.0, c.0 f.0, not-false late f.1);
  }

  pub form-unfinished : Exactly (number ≡ 34) (((kind r ≡ 2) ⊎ (kind r ≡ 3)) × AllZero r × (before % axes ≡ 0 → ⊥))
  form-unfinished = record {
    given = λ b. sym (form-part axes before late r (set_known r b.0) (all-zeros r b.1) (ne_eqb (kind r) 1 (not-axis r b.0)) b.2);
    only = λ e.
        let k = past30 34 e (λ z. omega arith) in
        let a = past31 34 e (λ z. omega arith) (λ z. omega arith) in
        let f = or-neither (is_axis r) (eqb (before % axes) 0)
        (this 34 [] (is_axis r || eqb (before % axes) 0) (omega arith) tt (past33 34 e (λ z. omega arith) (λ z. omega arith) (λ z. omega arith) (λ z. omega arith))) in
        (known-set r k.0 f.0, a.0, eqb-false (before % axes) 0 f.1);
  }

  -- a value or an end whose form is right
  pub form-right : (kind r ≡ 2) ⊎ (kind r ≡ 3) → Exactly (number ≡ 0) (AllZero r × (before % axes ≡ 0))
  form-right v = record {
    given = λ b. sym (form-set axes before late r (set_known r v) (all-zeros r b.0) (ne_eqb (kind r) 1 (not-axis r v)) b.1);
    only = λ e. let f = form-passed axes before late r e in (zeros-all r f.zeros, f.whole (ne_eqb (kind r) 1 (not-axis r v)));
  }

-- ---- one value record

module _ (r : List ℕ) (s : Said) where
  abbrev pub q : ℕ
  q = first_like s.regions (region_number r)

  abbrev seven : Tests
  seven = (not (has q s.named), 7) ∷ []

  value-is : value_told r s ≡ first_failed ((ltb (region_number r) (length s.regions), 6) ∷ seven)
  unfolding value_no
  value-is = refl

  pub value-six : Exactly (value_told r s ≡ 6) (length s.regions ≤ region_number r)
  value-six = record {
    given = λ b. value-is ∙ failed 6 seven (ltb (region_number r) (length s.regions)) (le-ltb (region_number r) (length s.regions) b);
    only = λ e. ltb-false (region_number r) (length s.regions) (this 6 seven (ltb (region_number r) (length s.regions)) (omega arith) (omega arith, tt) (sym value-is ∙ e));
  }

  pub value-seven : Exactly (value_told r s ≡ 7) ((region_number r < length s.regions) × (has q s.named ≡ true))
  value-seven = record {
    given = λ b.
        value-is ∙ passed 6 seven 7 (ltb (region_number r) (length s.regions)) (lt-ltb (region_number r) (length s.regions) b.0) (failed 7 [] (not (has q s.named)) (ap not b.1));
    only = λ e.
        let f = sym value-is ∙ e in
        let d : ◌≡◌ {A = ℕ} 6 7 → ⊥ = λ x. omega arith in
        let h = later 6 seven 7 (ltb (region_number r) (length s.regions)) d f in (
          ltb-true (region_number r) (length s.regions) (other 6 seven 7 (ltb (region_number r) (length s.regions)) d f),
          not-false (has q s.named) (this 7 [] (not (has q s.named)) (omega arith) tt h),
        );
  }

-- ---- one end record

module _ (mode : ℕ) (s : Said) where
  abbrev full : Bool
  full = eqb mode 1 && eqb (length s.sets) 65535

  end_is : end_told mode s ≡ first_failed ((not full, 9) ∷ [])
  unfolding end_refusal
  end_is = refl

  pub end-nine : Exactly (end_told mode s ≡ 9) ((mode ≡ 1) × (length s.sets ≡ 65535))
  end-nine = record {
    given = λ b. end_is ∙ failed 9 [] (not full) (ap not (and_both (eqb mode 1) (eqb (length s.sets) 65535) (eq-eqb mode 1 b.0) (eq-eqb (length s.sets) 65535 b.1)));
    only = λ e.
        let t = not-false full (this 9 [] (not full) (omega arith) tt (sym end_is ∙ e)) in
        let p = and-true (eqb mode 1) (eqb (length s.sets) 65535) t in
        (eqb-true mode 1 p.0, eqb-true (length s.sets) 65535 p.1);
  }
