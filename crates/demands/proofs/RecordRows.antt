-- Rows 30 to 34, 6, 7 and 9 of the refusal table, each exactly where it says, at the record's number, 31 with its byte; and the earliest bad record
-- decides. Assumes nothing.
use mathlib.Core.Path.{◌≡◌, refl, sym, ap, subst, ◌∙◌}
use mathlib.Core.Logic.{inl, inr}
use Prim.Native.Nat.{ℕ, ◌≤◌, ◌<◌}
use native.Mathlib.Omega.{arith}
use lib.ListN.{length}
use Rattle.said.specs.Job.{State, Step, stop, on, step, refused}
use Rattle.said.specs.Records.{record_at, record_count}
use Rattle.said.specs.Refusals.{not_zero, byte_of}
use Rattle.finishing.specs.Answers.{Refused}
use Rattle.call.specs.Lending.{Lending}
use Rattle.call.specs.Build.{answer_of}
use Rattle.refusing.specs.Exactly.{Exactly}
use Rattle.refusing.specs.Counts.{UnknownKind, NotZeroAt, OutOfTurn, TooLate, InUnfinished, UnknownRegion, RegionTwice, SetsFull, RecordNo}
use Rattle.refusing.specs.Counts.RecordNo.{of-form, of-region, of-sets}
use Rattle.refusing.specs.BadRecord.{BadRecord}
use Rattle.refusing.specs.Fine.{Fine}
use Rattle.refusing.proofs.Passing.{Passed, StopsAt}
use Rattle.refusing.proofs.ZeroLaws.{byte-is, byte-none}
use Rattle.refusing.proofs.StepLaws.{stop-no}
use Rattle.refusing.proofs.StateLaws.{means}
use Rattle.refusing.proofs.WalkRows.{stops-given}
use Rattle.refusing.proofs.WalkEnds.{not_eight, record-walk, stops-only}
use Rattle.refusing.proofs.RecordStops.{stops-unknown-kind, stops-not-zero, stops-out-of-turn, stops-too-late, stops-unfinished, stops-six, stops-seven, stops-nine}
use Rattle.refusing.proofs.FiveLaws.{stops-five}
use Rattle.refusing.proofs.FineLaws.{on_fine, stop-not-fine, passed-fine, fine-passed}
use Rattle.reporting.specs.Answers.{byte_told}
use Rattle.demands.specs.Fits.{Fits}
use Rattle.demands.specs.Rows.{EarliestBad}
use Rattle.demands.proofs.OutcomeRows.{outcome-walked, walked-only, answer-refused, job_only}
use Rattle.demands.proofs.EarlyRows.{early-none}

-- ---- the rows

module _ (c : Lending) (i : ℕ) where
  abbrev records : ℕ
  records = record_count c.job

  -- refused at record i where the walk stops there
  refused-at : (n : ℕ) → Fits c → i < records → (s : State) → Passed c.axes c.mode c.job i s
      → step c.axes c.mode c.job (record_at c.job i) i s ≡ stop n → answer_of c ≡ Refused n i
  refused-at n f l s p e =
      answer-refused c n i (outcome-walked c ((early-none c.axes c.mode c.job (length c.work) (length c.pairs)).given f)
      ∙ stops-given c.axes c.mode c.job records n i (record { state = s; within = l; before-pass = p; stops = e }))

  at-refused : (n : ℕ) → RecordNo n → answer_of c ≡ Refused n i → Fits c × StopsAt c.axes c.mode c.job records n i
  at-refused n k e =
      let x = record-walk n k in
      let low = x.low in
      let o = job_only c n i (λ h. (x.gap h, x.high)) e in
      let w = walked-only c (refused n i) (λ m p f. let z : n ≡ m = cc in omega arith) o in (
        (early-none c.axes c.mode c.job (length c.work) (length c.pairs)).only w.0,
        stops-only c.axes c.mode c.job records n i (not_eight n k) w.1,
      )

  -- the records before i pass
  passes : {Why : Type 0} → EarliestBad c i Why → (s : State) × Passed c.axes c.mode c.job i s
  passes b = let l = b.within in fine-passed c.axes c.mode c.job i (λ j h. b.before-fine j (omega arith))

  earliest-at : (n : ℕ) (Why : Type 0) (a : Fits c × StopsAt c.axes c.mode c.job records n i) → Why → EarliestBad c i Why
  earliest-at n Why a w = record {
    fits = a.0;
    within = a.1.within;
    before-fine = λ j h. passed-fine c.axes c.mode c.job i a.1.state a.1.before-pass j (omega arith);
    why = w;
  }

  row : (n : ℕ) (Why : Type 0) → RecordNo n
      → ((s : State) → Passed c.axes c.mode c.job i s → Exactly (step c.axes c.mode c.job (record_at c.job i) i s ≡ stop n) Why)
      → Exactly (answer_of c ≡ Refused n i) (EarliestBad c i Why)
  row n Why k x = record {
    given = λ b.
        let p = passes b in
        refused-at n b.fits b.within p.0 p.1 ((x p.0 p.1).given b.why);
    only = λ e.
        let a = at-refused n k e in
        earliest-at n Why a ((x a.1.state a.1.before-pass).only a.1.stops);
  }

  -- a record's refusal is given at i exactly where every record before i is fine and i is not
  pub earliest-bad : Exactly ((n : ℕ) × RecordNo n × (answer_of c ≡ Refused n i)) (EarliestBad c i (Fine c.axes c.mode c.job i → ⊥))
  earliest-bad = record {
    given = λ b. let p = passes b in stopping b p.0 p.1 (step c.axes c.mode c.job (record_at c.job i) i p.0) refl;
    only = λ e.
        let a = at-refused e.0 e.1 e.2 in
        earliest-at e.0 (Fine c.axes c.mode c.job i → ⊥) a (stop-not-fine c.axes c.mode c.job i a.1.state a.1.before-pass e.0 a.1.stops);
  }
    where
      stopping : EarliestBad c i (Fine c.axes c.mode c.job i → ⊥) → (s : State) → Passed c.axes c.mode c.job i s
          → (x : Step) → step c.axes c.mode c.job (record_at c.job i) i s ≡ x
          → (n : ℕ) × RecordNo n × (answer_of c ≡ Refused n i)
      stopping b s p (on t) e = absurd (b.why (on_fine c.axes c.mode c.job i s p t e))
      stopping b s p (stop n) e = (n, stop-no c.axes c.mode c.job (record_at c.job i) i s n e, refused-at n b.fits b.within s p e)

  -- the five rows from 30 on together
  pub old-five : Exactly ((n : ℕ) × (30 ≤ n) × (n ≤ 34) × (answer_of c ≡ Refused n i)) (EarliestBad c i (BadRecord c.axes c.job i (record_at c.job i)))
  old-five = record {
    given = λ b.
        let p = passes b in
        let x = (stops-five c.axes c.mode c.job i p.0 (means c.axes c.mode c.job i p.0 p.1)).given b.why in
        (x.0, x.1, x.2, refused-at x.0 b.fits b.within p.0 p.1 x.3);
    only = λ e.
        let a = at-refused e.0 (of-form e.1 e.2) e.3 in
        let s = a.1.state in
        earliest-at e.0 (BadRecord c.axes c.job i (record_at c.job i)) a
        ((stops-five c.axes c.mode c.job i s (means c.axes c.mode c.job i s a.1.before-pass)).only (e.0, e.1, e.2, a.1.stops));
  }

  -- R30 UNKNOWN_KIND
  pub unknown-kind : Exactly (answer_of c ≡ Refused 30 i) (EarliestBad c i (UnknownKind (record_at c.job i)))
  unknown-kind =
      row 30 (UnknownKind (record_at c.job i)) (of-form (omega arith) (omega arith))
      (λ s p. stops-unknown-kind c.axes c.mode c.job i s (means c.axes c.mode c.job i s p))

  -- the byte that the answer names
  byte-told : (n : ℕ) → answer_of c ≡ Refused n i → byte_told c.job (answer_of c) ≡ byte_of n (record_at c.job i)
  unfolding byte_told
  byte-told n e = ap (byte_told c.job) e

  pub byte-elsewhere : (n : ℕ) → (n ≡ 31 → ⊥) → answer_of c ≡ Refused n i → byte_told c.job (answer_of c) ≡ 0
  byte-elsewhere n d e = byte-told n e ∙ byte-none (record_at c.job i) n d

  -- R31 NOT_ZERO
  zero_row : Exactly (answer_of c ≡ Refused 31 i) (EarliestBad c i (NotZeroAt (record_at c.job i) (byte_of not_zero (record_at c.job i))))
  zero_row = row 31 (NotZeroAt (record_at c.job i) b) (of-form (omega arith) (omega arith)) (λ s p. record {
    given = λ w. ((x s p).given w).0;
    only = λ f. (x s p).only (f, refl);
  })
    where
      b : ℕ
      b = byte_of not_zero (record_at c.job i)

      x : (s : State) → Passed c.axes c.mode c.job i s
          → Exactly ((step c.axes c.mode c.job (record_at c.job i) i s ≡ stop 31) × (byte_of not_zero (record_at c.job i) ≡ b)) (NotZeroAt (record_at c.job i) b)
      x s p = stops-not-zero c.axes c.mode c.job i s (means c.axes c.mode c.job i s p) b

  pub not-zero : (b : ℕ) → Exactly ((answer_of c ≡ Refused 31 i) × (byte_told c.job (answer_of c) ≡ b)) (EarliestBad c i (NotZeroAt (record_at c.job i) b))
  not-zero b = record {
    given = λ w.
        let e = byte-is (record_at c.job i) b w.why in
        let a = zero_row.given (subst At (sym e) w) in
        (a, byte-told 31 a ∙ e);
    only = λ f. subst At (sym (byte-told 31 f.0) ∙ f.1) (zero_row.only f.0);
  }
    where
      At : ℕ → Type 0
      At k = EarliestBad c i (NotZeroAt (record_at c.job i) k)

  -- it is at a record of the job
  pub zero-within : answer_of c ≡ Refused 31 i → i < records
  zero-within e = (at-refused 31 (of-form (omega arith) (omega arith)) e).1.within

  -- R32 AXIS_OUT_OF_TURN
  pub axis-out-of-turn : Exactly (answer_of c ≡ Refused 32 i) (EarliestBad c i (OutOfTurn c.axes c.job i (record_at c.job i)))
  axis-out-of-turn =
      row 32 (OutOfTurn c.axes c.job i (record_at c.job i)) (of-form (omega arith) (omega arith))
      (λ s p. stops-out-of-turn c.axes c.mode c.job i s (means c.axes c.mode c.job i s p))

  -- R33 AXIS_TOO_LATE
  pub axis-too-late : Exactly (answer_of c ≡ Refused 33 i) (EarliestBad c i (TooLate c.axes c.job i (record_at c.job i)))
  axis-too-late =
      row 33 (TooLate c.axes c.job i (record_at c.job i)) (of-form (omega arith) (omega arith))
      (λ s p. stops-too-late c.axes c.mode c.job i s (means c.axes c.mode c.job i s p))

  -- R34 REGION_UNFINISHED
  pub region-unfinished : Exactly (answer_of c ≡ Refused 34 i) (EarliestBad c i (InUnfinished c.axes c.job i (record_at c.job i)))
  region-unfinished =
      row 34 (InUnfinished c.axes c.job i (record_at c.job i)) (of-form (omega arith) (omega arith))
      (λ s p. stops-unfinished c.axes c.mode c.job i s (means c.axes c.mode c.job i s p))

  -- R6 UNKNOWN_REGION
  pub unknown-region : Exactly (answer_of c ≡ Refused 6 i) (EarliestBad c i (UnknownRegion c.axes c.job i (record_at c.job i)))
  unknown-region =
      row 6 (UnknownRegion c.axes c.job i (record_at c.job i)) (of-region (inl refl))
      (λ s p. stops-six c.axes c.mode c.job i s (means c.axes c.mode c.job i s p))

  -- R7 REGION_TWICE
  pub region-twice : Exactly (answer_of c ≡ Refused 7 i) (EarliestBad c i (RegionTwice c.axes c.job i (record_at c.job i)))
  region-twice =
      row 7 (RegionTwice c.axes c.job i (record_at c.job i)) (of-region (inr refl))
      (λ s p. stops-seven c.axes c.mode c.job i s (means c.axes c.mode c.job i s p) p)

  -- R9 SETS_FULL
  pub sets-full : Exactly (answer_of c ≡ Refused 9 i) (EarliestBad c i (SetsFull c.axes c.mode c.job i (record_at c.job i)))
  sets-full =
      row 9 (SetsFull c.axes c.mode c.job i (record_at c.job i)) (of-sets refl)
      (λ s p. stops-nine c.axes c.mode c.job i s (means c.axes c.mode c.job i s p))
