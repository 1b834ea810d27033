-- Where the walk stops at a record: by each number exactly when the row's words are true of it. Assumes nothing.
use mathlib.Core.Path.{◌≡◌, sym, ap, subst, ◌∙◌}
use mathlib.Core.Bool.{true, false}
use mathlib.Core.List.{List}
use mathlib.Core.Logic.{◌⊎◌, inl, inr}
use Prim.Native.Nat.{ℕ, ◌/◌, ◌%◌, ◌≤◌, ◌<◌}
use native.Mathlib.Omega.{arith}
use lib.ListN.{length}
use Rattle.laws.proofs.Cases.{Which, which, true-false}
use Rattle.laws.proofs.Cases.Which.{holds, fails}
use Rattle.said.specs.Records.{kind, region_number, first_wrong_byte, record_at}
use Rattle.said.specs.Refusals.{not_zero, byte_of, in_turn}
use Rattle.said.specs.Sets.{Region, first_like}
use Rattle.said.specs.Job.{Said, State, stop, said_at, axes_before, is_late, value_step, end_step, step}
use Rattle.refusing.specs.Exactly.{Exactly}
use Rattle.refusing.specs.Counts.{axis_records, known_regions, AllZero, UnknownKind, NotZeroAt, InTurn, OutOfTurn, TooLate, InUnfinished, ValueHere, UnknownRegion, RegionTwice, SetsFull}
use Rattle.refusing.proofs.Passing.{Passed}
use Rattle.refusing.proofs.StepLaws.{Looks, looks, form_told, form-stops, form-only, value-only, value-stops, end-only, end-stops}
use Rattle.refusing.proofs.StepLaws.Looks.{bad, axis, value, set-end}
use Rattle.refusing.proofs.StateLaws.{NamedAt, Means, before-is, late_is}
use Rattle.refusing.proofs.KnownLaws.{named-before}
use Rattle.refusing.proofs.ZeroLaws.{not_zeros, byte-wrong, byte-is}
use Rattle.refusing.proofs.RecordTests.{turn_is, form-kind, form-byte, form-out, form-too-late, form-unfinished, form-right, q, value-six, value-seven, end-nine}

-- ---- record i, in the state before it

module _ (axes mode : ℕ) (job : List ℕ) (i : ℕ) (s : State) (m : Means axes job i s) where
  abbrev r : List ℕ
  r = record_at job i

  abbrev said : Said
  said = said_at axes job i s

  abbrev before : ℕ
  before = axes_before axes i s

  abbrev count : before ≡ axis_records job i
  count = before-is axes job i s m

  -- ---- R30 to R34

  form-row : (n : ℕ) (Why : Type 0) → 30 ≤ n → Exactly (form_told axes mode job r i s ≡ n) Why → Exactly (step axes mode job r i s ≡ stop n) Why
  form-row n Why low x = record {
    given = λ b. form-stops axes mode job r i s n (x.given b) (omega arith);
    only = λ f. x.only (form-only axes mode job r i s n f low);
  }

  -- R30 UNKNOWN_KIND
  pub stops-unknown-kind : Exactly (step axes mode job r i s ≡ stop 30) (UnknownKind r)
  stops-unknown-kind = form-row 30 (UnknownKind r) (omega arith) (form-kind axes before (is_late s) r)

  -- R31 NOT_ZERO, with its byte
  pub stops-not-zero : (b : ℕ) → Exactly ((step axes mode job r i s ≡ stop 31) × (byte_of not_zero r ≡ b)) (NotZeroAt r b)
  stops-not-zero b = record {
    given = λ n.
        let e = (not_zeros r b n).0 in
        (row.given (subst (λ (k : ℕ). NotZeroAt r k) (sym e) n), byte-is r b n);
    only = λ f. subst (λ (k : ℕ). NotZeroAt r k) (sym (byte-wrong r) ∙ f.1) (row.only f.0);
  }
    where
      row : Exactly (step axes mode job r i s ≡ stop 31) (NotZeroAt r (first_wrong_byte r))
      row = form-row 31 (NotZeroAt r (first_wrong_byte r)) (omega arith) (form-byte axes before (is_late s) r)

  -- the turn, by the axis records before it
  turn : Exactly (in_turn axes before r ≡ true) (InTurn axes job i r)
  turn = record {
    given = λ t. (turn_is axes before r).given (t.region-few, t.region-next ∙ ap (λ (n : ℕ). n / axes) (sym count), t.axis-next ∙ ap (λ (n : ℕ). n % axes) (sym count));
    only = λ e.
        let p = (turn_is axes before r).only e in
        record { region-few = p.0; region-next = p.1 ∙ ap (λ (n : ℕ). n / axes) count; axis-next = p.2 ∙ ap (λ (n : ℕ). n % axes) count };
  }

  not-turn : (InTurn axes job i r → ⊥) → in_turn axes before r ≡ false
  not-turn d = go (which (in_turn axes before r))
    where
      go : Which (in_turn axes before r) → in_turn axes before r ≡ false
      go (holds e) = absurd (d (turn.only e))
      go (fails e) = e

  -- R32 AXIS_OUT_OF_TURN
  pub stops-out-of-turn : Exactly (step axes mode job r i s ≡ stop 32) (OutOfTurn axes job i r)
  stops-out-of-turn = form-row 32 (OutOfTurn axes job i r) (omega arith) (record {
    given = λ b. x.given (b.is-axis, b.all-zero, not-turn b.other);
    only = λ e.
        let f = x.only e in
        record { is-axis = f.0; all-zero = f.1; other = λ t. true-false (turn.given t) f.2 };
  })
    where
      x : Exactly (form_told axes mode job r i s ≡ 32) ((kind r ≡ 1) × AllZero r × (in_turn axes before r ≡ false))
      x = form-out axes before (is_late s) r

  -- R33 AXIS_TOO_LATE
  pub stops-too-late : Exactly (step axes mode job r i s ≡ stop 33) (TooLate axes job i r)
  stops-too-late = form-row 33 (TooLate axes job i r) (omega arith) (record {
    given = λ b. x.given (b.is-axis, b.all-zero, turn.given b.in-turn, (late_is axes job i s m).given b.late);
    only = λ e.
        let f = x.only e in
        record { is-axis = f.0; all-zero = f.1; in-turn = turn.only f.2; late = (late_is axes job i s m).only f.3 };
  })
    where
      x : Exactly (form_told axes mode job r i s ≡ 33) ((kind r ≡ 1) × AllZero r × (in_turn axes before r ≡ true) × (is_late s ≡ true))
      x = form-too-late axes before (is_late s) r

  -- R34 REGION_UNFINISHED
  pub stops-unfinished : Exactly (step axes mode job r i s ≡ stop 34) (InUnfinished axes job i r)
  stops-unfinished = form-row 34 (InUnfinished axes job i r) (omega arith) (record {
    given = λ b. x.given (b.value-or-end, b.all-zero, λ e. b.in-region (ap (λ (n : ℕ). n % axes) (sym count) ∙ e));
    only = λ e.
        let f = x.only e in
        record { value-or-end = f.0; all-zero = f.1; in-region = λ z. f.2 (ap (λ (n : ℕ). n % axes) count ∙ z) };
  })
    where
      x : Exactly (form_told axes mode job r i s ≡ 34) (((kind r ≡ 2) ⊎ (kind r ≡ 3)) × AllZero r × (before % axes ≡ 0 → ⊥))
      x = form-unfinished axes before (is_late s) r

  -- ---- R6, R7, R9

  -- a value or an end with its zeros, in no unfinished region
  right : (kind r ≡ 2) ⊎ (kind r ≡ 3) → Exactly (form_told axes mode job r i s ≡ 0) (AllZero r × (axis_records job i % axes ≡ 0))
  right v = record {
    given = λ b. (form-right axes before (is_late s) r v).given (b.0, ap (λ (n : ℕ). n % axes) count ∙ b.1);
    only = λ e.
        let f = (form-right axes before (is_late s) r v).only e in
        (f.0, ap (λ (n : ℕ). n % axes) (sym count) ∙ f.1);
  }

  value-step : ValueHere axes job i r → step axes mode job r i s ≡ value_step r said
  value-step v = go (looks axes mode job r i s)
    where
      fine : form_told axes mode job r i s ≡ 0
      fine = (right (inl v.is-value)).given (v.all-zero, v.whole)

      go : Looks axes mode job r i s → step axes mode job r i s ≡ value_step r said
      go (bad n e h f) = absurd (omega (arith, fine))
      go (axis z k e) = absurd (omega (arith, v.is-value))
      go (value z k e) = e
      go (set-end z k e) = absurd (omega (arith, v.is-value))

  end-step : kind r ≡ 3 → AllZero r → axis_records job i % axes ≡ 0 → step axes mode job r i s ≡ end_step mode said
  end-step v a w = go (looks axes mode job r i s)
    where
      fine : form_told axes mode job r i s ≡ 0
      fine = (right (inr v)).given (a, w)

      go : Looks axes mode job r i s → step axes mode job r i s ≡ end_step mode said
      go (bad n e h f) = absurd (omega (arith, fine))
      go (axis z k e) = absurd (omega arith)
      go (value z k e) = absurd (omega arith)
      go (set-end z k e) = e

  value-here : form_told axes mode job r i s ≡ 0 → kind r ≡ 2 → ValueHere axes job i r
  value-here z k = let f = (right (inl k)).only z in record { is-value = k; all-zero = f.0; whole = f.1 }

  -- R6 UNKNOWN_REGION
  pub stops-six : Exactly (step axes mode job r i s ≡ stop 6) (UnknownRegion axes job i r)
  stops-six = record {
    given = λ b.
        value-step b.value-here
        ∙ value-stops r said 6 ((value-six r said).given (subst (λ (x : List Region). length x ≤ region_number r) (sym m.regions-are) b.unknown)) (omega arith);
    only = λ f.
        let x = value-only axes mode job r i s 6 f (omega arith) in
        record { value-here = value-here x.0 x.1; unknown = subst (λ (x : List Region). length x ≤ region_number r) m.regions-are ((value-six r said).only x.2) };
  }

  -- R7 REGION_TWICE
  pub stops-seven : Passed axes mode job i s → Exactly (step axes mode job r i s ≡ stop 7) (RegionTwice axes job i r)
  stops-seven p = record {
    given = λ b.
        value-step b.value-here ∙ value-stops r said 7 ((value-seven r said).given (
          subst (λ (x : List Region). region_number r < length x) (sym m.regions-are) b.known,
          (m.named-is (q r said)).given (subst (λ (x : ℕ). NamedAt (known_regions axes job i) job i x) (sym like_is)
              ((named-before axes mode job i s p (region_number r) b.known).given b.twice)),
        )) (omega arith);
    only = λ f.
        let x = value-only axes mode job r i s 7 f (omega arith) in
        let y = (value-seven r said).only x.2 in
        let known = subst (λ (x : List Region). region_number r < length x) m.regions-are y.0 in
        record {
          value-here = value-here x.0 x.1;
          known = known;
          twice = (named-before axes mode job i s p (region_number r) known).only
              (subst (λ (x : ℕ). NamedAt (known_regions axes job i) job i x) like_is ((m.named-is (q r said)).only y.1));
        };
  }
    where
      like_is : q r said ≡ first_like (known_regions axes job i) (region_number r)
      like_is = ap (λ (x : List Region). first_like x (region_number r)) m.regions-are

  -- R9 SETS_FULL
  pub stops-nine : Exactly (step axes mode job r i s ≡ stop 9) (SetsFull axes mode job i r)
  stops-nine = record {
    given = λ b. end-step b.is-end b.all-zero b.whole ∙ end-stops mode said 9 ((end-nine mode said).given (b.mode-one, m.sets-are ∙ b.full)) (omega arith);
    only = λ f.
        let x = end-only axes mode job r i s 9 f (omega arith) in
        let k = (right (inr x.1)).only x.0 in
        let y = (end-nine mode said).only x.2 in
        record { is-end = x.1; all-zero = k.0; whole = k.1; mode-one = y.0; full = sym m.sets-are ∙ y.1 };
  }
