-- R70, R71: the panel's profile refuses at record i exactly where that record is fine by the checks that every build makes, all before it by both, and it is odd; every
-- other refusal is as without the profile, and what it takes is taken as without it. Assumes nothing.
use mathlib.Core.Path.{◌≡◌, refl, sym, ap, subst, ◌∙◌}
use mathlib.Core.Bool.{false, not, ◌||◌}
use mathlib.Core.List.{List}
use mathlib.Core.Logic.{◌⊎◌, inl, inr, ⊎_elim}
use Prim.Native.Nat.{ℕ, suc, ◌≤◌, ◌<◌}
use native.Mathlib.Omega.{arith}
use borrow.Author.Tests.{eqb-true}
use Rattle.laws.proofs.Cases.{Which, which, lt-or-ge}
use Rattle.laws.proofs.Cases.Which.{holds, fails}
use Rattle.said.specs.Records.{record_at, record_count, kind, axis_kind, value_kind, is_axis, is_value}
use Rattle.said.specs.Refusals.{long_value, bad_region, first_failed}
use Rattle.said.specs.Job.{Said, State, in_axes, Outcome, refused, fine, records_from, ended}
use Rattle.panel.specs.declared.Profile.TheVariants.{Panel}
use Rattle.panel.specs.Taken.{has_short_value, has_sound_axis, panel_refusal}
use Rattle.panel.specs.Panelled.{read_records, panelled}
use Rattle.panel.proofs.PanelledLaws as panel
use Rattle.panel.proofs.PanelledLaws.{PanelNo, panel-no, panelled-odd, read-fine, read-refused}
use Rattle.panel.proofs.PanelledLaws.PanelNo.{all_right, long, bad}
use Rattle.panel.proofs.PanelledLaws.Way.{takes, stops}
use Rattle.refusing.specs.Exactly.{Exactly}
use Rattle.refusing.specs.Fine.{AllFine}
use Rattle.refusing.specs.OddRecords.{LongValue, BadAxis, PanelTakes, EarliestOdd}
use Rattle.refusing.proofs.FailedLaws.{asked-fails}
use Rattle.refusing.proofs.WalkRows.{way}
use Rattle.refusing.proofs.WalkRows as walk
use Rattle.refusing.proofs.WalkRows.Way.{stopped, came}
use Rattle.refusing.proofs.WalkEnds.{walk_no, ended-no}
use Rattle.refusing.proofs.FineLaws.{passed-fine, stop-not-fine}

-- ---- the two rows of one record

module _ (r : List ℕ) where
  value-or : kind r ≡ value_kind → is_axis r ≡ false
  value-or e = rw e

  long-given : LongValue r → panel_refusal r ≡ long_value
  unfolding panel_refusal first_failed
  long-given w = rw (w.is-value, w.long)

  bad-given : BadAxis r → panel_refusal r ≡ bad_region
  unfolding panel_refusal first_failed
  bad-given w = rw (w.is-axis, w.not_sound)

  -- by the two tests
  data Tests : Type 0 where
    first : LongValue r → Tests
    second : BadAxis r → Tests
    neither : panel_refusal r ≡ 0 → Tests

  tests : Tests
  unfolding panel_refusal first_failed
  tests = go (which (not (is_value r) || has_short_value r)) (which (not (is_axis r) || has_sound_axis r))
    where
      go : Which (not (is_value r) || has_short_value r) → Which (not (is_axis r) || has_sound_axis r) → Tests
      go (fails e) f = let a = asked-fails (is_value r) (has_short_value r) e in first (record { is-value = eqb-true (kind r) value_kind a.0; long = a.1 })
      go (holds e) (fails f) = let a = asked-fails (is_axis r) (has_sound_axis r) f in second (record { is-axis = eqb-true (kind r) axis_kind a.0; not_sound = a.1 })
      go (holds e) (holds f) = neither (rw (e, f) refl)

  long-row : Exactly (panel_refusal r ≡ long_value) (LongValue r)
  long-row = record { given = long-given; only = λ e. go e tests }
    where
      go : panel_refusal r ≡ long_value → Tests → LongValue r
      go e (first w) = w
      go e (second w) = let b = bad-given w in absurd (omega arith)
      go e (neither z) = absurd (omega arith)

  bad-row : Exactly (panel_refusal r ≡ bad_region) (BadAxis r)
  bad-row = record { given = bad-given; only = λ e. go e tests }
    where
      go : panel_refusal r ≡ bad_region → Tests → BadAxis r
      go e (first w) = let b = long-given w in absurd (omega arith)
      go e (second w) = w
      go e (neither z) = absurd (omega arith)

pub takes-given : (job : List ℕ) (j : ℕ) → PanelTakes job j → panel_refusal (record_at job j) ≡ 0
takes-given job j t = go (tests (record_at job j))
  where
    go : Tests (record_at job j) → panel_refusal (record_at job j) ≡ 0
    go (first w) = absurd (t.not-long w)
    go (second w) = absurd (t.not-bad w)
    go (neither z) = z

pub takes-only : (job : List ℕ) (j : ℕ) → panel_refusal (record_at job j) ≡ 0 → PanelTakes job j
takes-only job j z = record {
  not-long = λ w. let e = long-given (record_at job j) w in omega arith;
  not-bad = λ w. let e = bad-given (record_at job j) w in omega arith;
}

-- ---- the records that were read

module _ (axes mode : ℕ) (job : List ℕ) where
  abbrev records : ℕ
  records = record_count job

  abbrev walked : Outcome
  walked = records_from axes mode job job (record_count job) 0 in_axes

  -- they are fine, and no more than there are
  record ReadFine : Type 0 where
    most : read_records (record_count job) walked ≤ record_count job
    fine-all : AllFine axes mode job (read_records (record_count job) walked)
    -- and a record that is fine with all before it was read
    reached : (i : ℕ) → i < record_count job → AllFine axes mode job (suc i) → i < read_records (record_count job) walked

  end_read : (s : State) (o : Outcome) → ended axes job records s ≡ o → read_records (record_count job) o ≡ record_count job
  end_read s (refused n i) e = sym (read-refused records (refused n i) n i refl) ∙ (ended-no axes job records s n i e).1
  end_read s (fine x) e = sym (read-fine records (fine x) x refl)

  reads : ReadFine
  reads = go (way axes mode job records)
    where
      go : walk.Way axes mode job records walked → ReadFine
      go (stopped n i e a) =
          let r : i ≡ read_records records walked = read-refused records walked n i e in
          let l = a.within in
          record {
            most = omega arith;
            fine-all = subst (λ (k : ℕ). AllFine axes mode job k) r (passed-fine axes mode job i a.state a.before-pass);
            reached = λ j h f. ⊎_elim (λ (k : j < i). omega arith)
                (λ (k : i ≤ j). absurd (stop-not-fine axes mode job i a.state a.before-pass n a.stops (f i (omega arith))))
                (lt-or-ge j i);
          }
      go (came a) =
          let r : read_records records walked ≡ records = end_read a.state walked a.ends in
          record {
            most = omega arith;
            fine-all = subst (λ (k : ℕ). AllFine axes mode job k) (sym r) (passed-fine axes mode job records a.state a.all_pass);
            reached = λ j h f. omega arith;
          }

  -- ---- the rows

  odd-row : (n i : ℕ) (Why : Type 0) → (n ≡ long_value) ⊎ (n ≡ bad_region) → Exactly (panel_refusal (record_at job i) ≡ n) Why
      → Exactly (panelled Panel job walked ≡ refused n i) (EarliestOdd axes mode job i Why)
  odd-row n i Why v x = record { given = given; only = λ e. go e (panel.way job walked) }
    where
      big : (k : ℕ) → k ≡ n → 34 < k
      big k e = ⊎_elim (λ (z : n ≡ long_value). omega arith) (λ (z : n ≡ bad_region). omega arith) v

      given : EarliestOdd axes mode job i Why → panelled Panel job walked ≡ refused n i
      given b =
          let e = x.given b.why in
          panelled-odd job walked i (reads.reached i b.within (λ j h. b.all-fine j (omega arith))) (λ j h. takes-given job j (b.before-taken j h)) (λ z. let h = big (panel_refusal (record_at job i)) e in omega arith)
          ∙ ap (λ (k : ℕ). refused k i) e

      go : panelled Panel job walked ≡ refused n i → panel.Way job walked → EarliestOdd axes mode job i Why
      go e (takes t f) = let w = (walk_no axes mode job records n i (sym f ∙ e)).high in let h = big n refl in absurd (omega arith)
      go e (stops j l t d f) =
          let g : refused (panel_refusal (record_at job j)) j ≡ refused n i = sym f ∙ e in
          let a : panel_refusal (record_at job j) ≡ n = cc in
          let b : j ≡ i = cc in
          let m = reads.most in
          subst (λ (k : ℕ). EarliestOdd axes mode job k Why) b
          (record {
            within = omega arith;
            all-fine = λ k h. reads.fine-all k (omega arith);
            before-taken = λ k h. takes-only job k (t k h);
            why = x.only (subst (λ (k : ℕ). panel_refusal (record_at job k) ≡ n) b a);
          })

  -- R70 LONG_VALUE
  pub long-value : (i : ℕ) → Exactly (panelled Panel job (records_from axes mode job job (record_count job) 0 in_axes) ≡ refused long_value i) (EarliestOdd axes mode job i (LongValue (record_at job i)))
  long-value i = odd-row long_value i (LongValue (record_at job i)) (inl refl) (long-row (record_at job i))

  -- R71 BAD_REGION
  pub bad-region : (i : ℕ) → Exactly (panelled Panel job (records_from axes mode job job (record_count job) 0 in_axes) ≡ refused bad_region i) (EarliestOdd axes mode job i (BadAxis (record_at job i)))
  bad-region i = odd-row bad_region i (BadAxis (record_at job i)) (inr refl) (bad-row (record_at job i))

-- ---- of any outcome

module _ (job : List ℕ) (o : Outcome) where
  -- by another number it is refused as without the profile
  pub refused-alike : (n i : ℕ) → (n ≡ long_value → ⊥) → (n ≡ bad_region → ⊥) → panelled Panel job o ≡ refused n i → o ≡ refused n i
  refused-alike n i d d' e = go (panel.way job o)
    where
      go : panel.Way job o → o ≡ refused n i
      go (takes t f) = sym f ∙ e
      go (stops j l t x f) =
          let g : refused (panel_refusal (record_at job j)) j ≡ refused n i = sym f ∙ e in
          let a : panel_refusal (record_at job j) ≡ n = cc in
          absurd (by a (panel-no (record_at job j)))
        where
          by : panel_refusal (record_at job j) ≡ n → PanelNo (panel_refusal (record_at job j)) → ⊥
          by a (all_right z) = x z
          by a (long z) = d (sym a ∙ z)
          by a (bad z) = d' (sym a ∙ z)

  -- what it takes says what it says without the profile, and the panel's reader takes every record
  pub taken-alike : (s : Said) → panelled Panel job o ≡ fine s → (o ≡ fine s) × ((j : ℕ) → j < record_count job → PanelTakes job j)
  taken-alike s e = go (panel.way job o)
    where
      go : panel.Way job o → (o ≡ fine s) × ((j : ℕ) → j < record_count job → PanelTakes job j)
      go (takes t f) =
          let g : o ≡ fine s = sym f ∙ e in
          (g, λ j h. takes-only job j (t j (let r = read-fine (record_count job) o s g in omega arith)))
      go (stops j l t x f) = let g : refused (panel_refusal (record_at job j)) j ≡ fine s = sym f ∙ e in let z : ◌≡◌ {A = ℕ} 0 1 = cc in absurd (omega arith)

  -- the other way
  pub taken-given : (s : Said) → o ≡ fine s → ((j : ℕ) → j < record_count job → PanelTakes job j) → panelled Panel job o ≡ fine s
  taken-given s e t = go (panel.way job o)
    where
      go : panel.Way job o → panelled Panel job o ≡ fine s
      go (takes u f) = f ∙ e
      go (stops j l u x f) = absurd (x (takes-given job j (t j (let r = read-fine (record_count job) o s e in omega arith))))
