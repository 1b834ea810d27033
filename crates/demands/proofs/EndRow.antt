-- Row 8 of the refusal table, exactly where it says; its place is the record count. And a job is taken exactly when each of its records is fine and it
-- is finished. Assumes nothing.
use mathlib.Core.Path.{◌≡◌, refl, sym, ap, ap₂, ◌∙◌}
use Prim.Native.Nat.{ℕ}
use native.Mathlib.Omega.{arith}
use lib.ListN.{length}
use Rattle.said.specs.Records.{record_count}
use Rattle.said.specs.Refusals.{early_refusal}
use Rattle.said.specs.Job.{Said, State, Outcome, refused, fine, ended}
use Rattle.finishing.specs.Answers.{Refused}
use Rattle.call.specs.Lending.{Lending}
use Rattle.call.specs.Build.{outcome_of, answer_of}
use Rattle.refusing.specs.Exactly.{Exactly}
use Rattle.refusing.proofs.Passing.{Passed, EndsAs}
use Rattle.demands.specs.Fits.{Fits}
use Rattle.refusing.specs.Counts.{Unfinished}
use Rattle.demands.specs.Rows.{AllPass}
use Rattle.refusing.proofs.WalkRows.{ends-given}
use Rattle.refusing.proofs.WalkEnds.{ended-no, ends-only, unfinished-is}
use Rattle.demands.proofs.OutcomeRows.{outcome-walked, walked-only, answer-refused, job_only}
use Rattle.demands.proofs.EarlyRows.{early-none}
use Rattle.refusing.proofs.StateLaws.{means}
use Rattle.refusing.proofs.FineLaws.{passed-fine, fine-passed}

-- ---- the row

module _ (c : Lending) where
  abbrev records : ℕ
  records = record_count c.job

  abbrev early_fits : Exactly (early_refusal c.axes c.mode c.job (length c.work) (length c.pairs) ≡ 0) (Fits c)
  early_fits = early-none c.axes c.mode c.job (length c.work) (length c.pairs)

  -- all records pass, and the end answers
  ended_is : (o : Outcome) → ((n q : ℕ) → o ≡ refused n q → n ≡ 8) → outcome_of c ≡ o → Fits c × EndsAs c.axes c.mode c.job records o
  ended_is o d e =
      let w = walked-only c o (λ n q f. let z = d n q f in omega arith) e in
      (early_fits.only w.0, ends-only c.axes c.mode c.job records o d w.1)

  is-ended : (o : Outcome) → Fits c → EndsAs c.axes c.mode c.job records o → outcome_of c ≡ o
  is-ended o f a = outcome-walked c (early_fits.given f) ∙ ends-given c.axes c.mode c.job records o a

  -- R8 UNFINISHED
  pub unfinished : (p : ℕ) → Exactly (answer_of c ≡ Refused 8 p) ((p ≡ records) × AllPass c (Unfinished c.axes c.job records))
  unfinished p = record {
    given = λ b.
        let a = b.1 in
        let t = fine-passed c.axes c.mode c.job records a.all-fine in
        let m = means c.axes c.mode c.job records t.0 t.1 in
        rw b.0 (answer-refused c 8 records (is-ended (refused 8 records) a.fits
        (record { state = t.0; all_pass = t.1; ends = (unfinished-is c.axes c.job records t.0 m).given a.why })));
    only = λ e.
        let a = ended_is (refused 8 p) (λ n q f. cc) (job_only c 8 p (λ z. absurd (omega arith)) e) in
        let x = a.1 in
        let at : p ≡ records = (ended-no c.axes c.job records x.state 8 p x.ends).1 in
        let m = means c.axes c.mode c.job records x.state x.all_pass in (
          at,
          record {
            fits = a.0;
            all-fine = passed-fine c.axes c.mode c.job records x.state x.all_pass;
            why = (unfinished-is c.axes c.job records x.state m).only (x.ends ∙ ap (λ (x : ℕ). refused 8 x) at);
          },
        );
  }

  not-refused : (s : Said) (n q : ℕ) → fine s ≡ refused n q → n ≡ 8
  not-refused s n q f = let z : ◌≡◌ {A = ℕ} 0 1 = cc in absurd (omega arith)

  -- the records of a job that is taken pass
  pub taken-passes : (s : Said) → outcome_of c ≡ fine s → EndsAs c.axes c.mode c.job records (fine s)
  taken-passes s e = (ended_is (fine s) (not-refused s) e).1

  -- taken: every record is fine, and the job is finished
  pub taken : Exactly ((s : Said) × (outcome_of c ≡ fine s)) (AllPass c (Unfinished c.axes c.job records → ⊥))
  taken = record {
    given = λ b.
        let t = fine-passed c.axes c.mode c.job records b.all-fine in
        ending b t.0 t.1 (ended c.axes c.job records t.0) refl;
    only = λ e.
        let a = ended_is (fine e.0) (not-refused e.0) e.1 in
        let x = a.1 in
        let m = means c.axes c.mode c.job records x.state x.all_pass in
        record {
          fits = a.0;
          all-fine = passed-fine c.axes c.mode c.job records x.state x.all_pass;
          why = λ u. not_eight e.0 (sym x.ends ∙ (unfinished-is c.axes c.job records x.state m).given u);
        };
  }
    where
      not_eight : (s : Said) → fine s ≡ refused 8 records → ⊥
      not_eight s f = let z : ◌≡◌ {A = ℕ} 0 1 = cc in omega arith

      ending : AllPass c (Unfinished c.axes c.job records → ⊥) → (s : State) → Passed c.axes c.mode c.job records s
          → (o : Outcome) → ended c.axes c.job records s ≡ o → (s : Said) × (outcome_of c ≡ fine s)
      ending b s p (fine x) e = (x, is-ended (fine x) b.fits (record { state = s; all_pass = p; ends = e }))
      ending b s p (refused n q) e =
          let z = ended-no c.axes c.job records s n q e in
          let f : ended c.axes c.job records s ≡ refused 8 records = e ∙ ap₂ refused z.0 z.1 in
          absurd (b.why ((unfinished-is c.axes c.job records s (means c.axes c.mode c.job records s p)).only f))
