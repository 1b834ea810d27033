-- Rows 1 to 4 of the refusal table, each exactly where it says, at place 0, in the order T1. Assumes nothing.
use mathlib.Core.Path.{◌≡◌, refl, sym, ◌∙◌}
use mathlib.Core.Bool.{Bool, true, false, ◌&&◌}
use mathlib.Core.List.{List, [], ◌∷◌}
use mathlib.Core.Logic.{◌⊎◌, inl, inr, ⊎_elim}
use Prim.Native.Nat.{ℕ, ◌≤◌, ◌<◌}
use native.Mathlib.Omega.{arith}
use lib.ListN.{length}
use lib.Dec.{eqb, ltb, leb}
use borrow.Author.Tests.{ltb-true, ltb-false, leb-true, leb-false, eqb-true, eqb-false, lt-ltb, le-ltb, le-leb, lt-leb, eq-eqb, ne_eqb}
use Rattle.laws.proofs.Cases.{and-true}
use Rattle.said.specs.Records.{whole_records_in, record_count, spare_bytes, most_records}
use Rattle.said.specs.Refusals.{first_failed, job_work, pair_records, early_refusal}
use Rattle.finishing.specs.Answers.{Refused}
use Rattle.call.specs.Lending.{Lending}
use Rattle.call.specs.Build.{answer_of}
use Rattle.refusing.specs.Exactly.{Exactly}
use Rattle.demands.specs.Fits.{AxesFit, ModeFit, LengthFit, WorkFit}
use Rattle.refusing.proofs.FailedLaws.{Tests, this, failed, other, later, passed, one_of_two, second-failed, none-failed, and-false, and_both, and_first, and_second}
use Rattle.demands.proofs.OutcomeRows.{early-only, outcome-early, answer-refused, job_only}

-- ---- the tests

module _ (axes : ℕ) where
  abbrev axes_ok : Bool
  axes_ok = ltb 0 axes && leb axes 64

  axes-fit : axes_ok ≡ true → AxesFit axes
  axes-fit e = let p = and-true (ltb 0 axes) (leb axes 64) e in record { some = ltb-true 0 axes p.0; most = leb-true axes 64 p.1 }

  fit-axes : AxesFit axes → axes_ok ≡ true
  fit-axes f = and_both (ltb 0 axes) (leb axes 64) (lt-ltb 0 axes f.some) (le-leb axes 64 f.most)

  axes-bad : axes_ok ≡ false → (axes ≡ 0) ⊎ (64 < axes)
  axes-bad e =
      ⊎_elim (λ (p : ltb 0 axes ≡ false). let h = ltb-false 0 axes p in inl (omega arith)) (λ (p : leb axes 64 ≡ false). inr (leb-false axes 64 p))
      (and-false (ltb 0 axes) (leb axes 64) e)

  bad-axes-ok : (axes ≡ 0) ⊎ (64 < axes) → axes_ok ≡ false
  bad-axes-ok b =
      ⊎_elim (λ (z : axes ≡ 0). and_first (ltb 0 axes) (leb axes 64) (le-ltb 0 axes (omega arith)))
      (λ (z : 64 < axes). and_second (ltb 0 axes) (leb axes 64) (lt-leb axes 64 z)) b

module _ (bytes : ℕ) where
  abbrev length_ok : Bool
  length_ok = eqb (spare_bytes bytes) 0 && leb (whole_records_in bytes) most_records

  length_whole : length_ok ≡ true → spare_bytes bytes ≡ 0
  length_whole e = eqb-true (spare_bytes bytes) 0 (and-true (eqb (spare_bytes bytes) 0) (leb (whole_records_in bytes) most_records) e).0

  length-few : length_ok ≡ true → whole_records_in bytes ≤ most_records
  length-few e = leb-true (whole_records_in bytes) most_records (and-true (eqb (spare_bytes bytes) 0) (leb (whole_records_in bytes) most_records) e).1

  fit_length : spare_bytes bytes ≡ 0 → whole_records_in bytes ≤ most_records → length_ok ≡ true
  fit_length a b = and_both (eqb (spare_bytes bytes) 0) (leb (whole_records_in bytes) most_records) (eq-eqb (spare_bytes bytes) 0 a) (le-leb (whole_records_in bytes) most_records b)

  length-bad : length_ok ≡ false → (spare_bytes bytes ≡ 0 → ⊥) ⊎ (most_records < whole_records_in bytes)
  length-bad e =
      ⊎_elim (λ (p : eqb (spare_bytes bytes) 0 ≡ false). inl (eqb-false (spare_bytes bytes) 0 p)) (λ (p : leb (whole_records_in bytes) most_records ≡ false). inr (leb-false (whole_records_in bytes) most_records p))
      (and-false (eqb (spare_bytes bytes) 0) (leb (whole_records_in bytes) most_records) e)

  bad-length-ok : (spare_bytes bytes ≡ 0 → ⊥) ⊎ (most_records < whole_records_in bytes) → length_ok ≡ false
  bad-length-ok b =
      ⊎_elim (λ (z : spare_bytes bytes ≡ 0 → ⊥). and_first (eqb (spare_bytes bytes) 0) (leb (whole_records_in bytes) most_records) (ne_eqb (spare_bytes bytes) 0 z))
      (λ (z : most_records < whole_records_in bytes). and_second (eqb (spare_bytes bytes) 0) (leb (whole_records_in bytes) most_records) (lt-leb (whole_records_in bytes) most_records z)) b

-- ---- their numbers

module _ (axes mode : ℕ) (job : List ℕ) (work pairs : ℕ) where
  abbrev work_ok : Bool
  work_ok = leb (job_work axes job) work

  abbrev pairs_ok : Bool
  pairs_ok = leb pair_records pairs

  abbrev fifth : Tests
  fifth = (pairs_ok, 4) ∷ []

  abbrev fourth : Tests
  fourth = (work_ok, 4) ∷ fifth

  abbrev third : Tests
  third = (length_ok (length job), 3) ∷ fourth

  abbrev second : Tests
  second = (leb mode 1, 2) ∷ third

  abbrev first : Tests
  first = (axes_ok axes, 1) ∷ second

  early-is : early_refusal axes mode job work pairs ≡ first_failed first
  unfolding early_refusal
  early-is = refl

  -- what passes before a number above 1, above 2, above 3
  module _ (n : ℕ) (e : early_refusal axes mode job work pairs ≡ n) where
    past-axes : (1 ≡ n → ⊥) → AxesFit axes × (first_failed second ≡ n)
    past-axes d = let f = sym early-is ∙ e in (axes-fit axes (other 1 second n (axes_ok axes) d f), later 1 second n (axes_ok axes) d f)

    past-mode : (1 ≡ n → ⊥) → (2 ≡ n → ⊥) → ModeFit axes mode × (first_failed third ≡ n)
    past-mode d c =
        let a = past-axes d in
        (record { axes-fit = a.0; known = leb-true mode 1 (other 2 third n (leb mode 1) c a.1) }, later 2 third n (leb mode 1) c a.1)

    past-length : (1 ≡ n → ⊥) → (2 ≡ n → ⊥) → (3 ≡ n → ⊥) → LengthFit axes mode (length job) × (first_failed fourth ≡ n)
    past-length d c b =
        let a = past-mode d c in
        let t = other 3 fourth n (length_ok (length job)) b a.1 in
        (record { mode-fit = a.0; whole = length_whole (length job) t; few = length-few (length job) t }, later 3 fourth n (length_ok (length job)) b a.1)

  to-axes : (n : ℕ) → AxesFit axes → first_failed second ≡ n → early_refusal axes mode job work pairs ≡ n
  to-axes n a e = early-is ∙ passed 1 second n (axes_ok axes) (fit-axes axes a) e

  to-mode : (n : ℕ) → ModeFit axes mode → first_failed third ≡ n → early_refusal axes mode job work pairs ≡ n
  to-mode n a e = to-axes n a.axes-fit (passed 2 third n (leb mode 1) (le-leb mode 1 a.known) e)

  to-length : (n : ℕ) → LengthFit axes mode (length job) → first_failed fourth ≡ n → early_refusal axes mode job work pairs ≡ n
  to-length n a e = to-mode n a.mode-fit (passed 3 fourth n (length_ok (length job)) (fit_length (length job) a.whole a.few) e)

  pub early-axes : Exactly (early_refusal axes mode job work pairs ≡ 1) ((axes ≡ 0) ⊎ (64 < axes))
  early-axes = record {
    given = λ b. early-is ∙ failed 1 second (axes_ok axes) (bad-axes-ok axes b);
    only = λ e. axes-bad axes (this 1 second (axes_ok axes) (omega arith) (omega arith, (omega arith, (omega arith, (omega arith, tt)))) (sym early-is ∙ e));
  }

  pub early-mode : Exactly (early_refusal axes mode job work pairs ≡ 2) (AxesFit axes × (1 < mode))
  early-mode = record {
    given = λ b. to-axes 2 b.0 (failed 2 third (leb mode 1) (lt-leb mode 1 b.1));
    only = λ e.
        let a = past-axes 2 e (λ z. omega arith) in
        (a.0, leb-false mode 1 (this 2 third (leb mode 1) (omega arith) (omega arith, (omega arith, (omega arith, tt))) a.1));
  }

  pub early-length : Exactly (early_refusal axes mode job work pairs ≡ 3) (ModeFit axes mode × ((spare_bytes (length job) ≡ 0 → ⊥) ⊎ (most_records < record_count job)))
  early-length = record {
    given = λ b. to-mode 3 b.0 (failed 3 fourth (length_ok (length job)) (bad-length-ok (length job) b.1));
    only = λ e.
        let a = past-mode 3 e (λ z. omega arith) (λ z. omega arith) in
        (a.0, length-bad (length job) (this 3 fourth (length_ok (length job)) (omega arith) (omega arith, (omega arith, tt)) a.1));
  }

  pub early-work : Exactly (early_refusal axes mode job work pairs ≡ 4) (LengthFit axes mode (length job) × ((work < job_work axes job) ⊎ (pairs < pair_records)))
  early-work = record {
    given = λ b.
        to-length 4 b.0
        (⊎_elim (λ (h : work < job_work axes job). failed 4 fifth work_ok (lt-leb (job_work axes job) work h))
        (λ (h : pairs < pair_records). second-failed 4 work_ok pairs_ok (lt-leb pair_records pairs h)) b.1);
    only = λ e.
        let a = past-length 4 e (λ z. omega arith) (λ z. omega arith) (λ z. omega arith) in (
          a.0,
          ⊎_elim (λ (h : work_ok ≡ false). inl (leb-false (job_work axes job) work h)) (λ (h : pairs_ok ≡ false). inr (leb-false pair_records pairs h))
              (one_of_two 4 work_ok pairs_ok (omega arith) a.1),
        );
  }

  -- none of them
  pub early-none : Exactly (early_refusal axes mode job work pairs ≡ 0) (WorkFit axes mode job work pairs)
  early-none = record {
    given = λ b.
        to-length 0 b.length-fit
        (passed 4 fifth 0 work_ok (le-leb (job_work axes job) work b.enough) (passed 4 [] 0 pairs_ok (le-leb pair_records pairs b.paired) none-failed));
    only = λ e.
        let a = past-length 0 e (λ z. omega arith) (λ z. omega arith) (λ z. omega arith) in
        let f = later 4 fifth 0 work_ok (λ z. omega arith) a.1 in
        record {
          length-fit = a.0;
          enough = leb-true (job_work axes job) work (other 4 fifth 0 work_ok (λ z. omega arith) a.1);
          paired = leb-true pair_records pairs (other 4 [] 0 pairs_ok (λ z. omega arith) f);
        };
  }

-- ---- the rows

module _ (c : Lending) (p : ℕ) where
  row : (n : ℕ) (Why : Type 0) → 0 < n → n ≤ 4 → Exactly (early_refusal c.axes c.mode c.job (length c.work) (length c.pairs) ≡ n) Why → Exactly (answer_of c ≡ Refused n p) ((p ≡ 0) × Why)
  row n Why low high x = record {
    given = λ b. answer-refused c n p (rw b.0 (outcome-early c n (x.given b.1) low));
    only = λ e. let a = early-only c n p high (job_only c n p (λ z. absurd (omega arith)) e) in (a.1, x.only a.0);
  }

  -- R1 BAD_AXES
  pub bad-axes : Exactly (answer_of c ≡ Refused 1 p) ((p ≡ 0) × ((c.axes ≡ 0) ⊎ (64 < c.axes)))
  bad-axes = row 1 ((c.axes ≡ 0) ⊎ (64 < c.axes)) (omega arith) (omega arith) (early-axes c.axes c.mode c.job (length c.work) (length c.pairs))

  -- R2 BAD_MODE
  pub bad-mode : Exactly (answer_of c ≡ Refused 2 p) ((p ≡ 0) × (AxesFit c.axes × (1 < c.mode)))
  bad-mode = row 2 (AxesFit c.axes × (1 < c.mode)) (omega arith) (omega arith) (early-mode c.axes c.mode c.job (length c.work) (length c.pairs))

  -- R3 BAD_JOB_LENGTH
  pub bad-job-length : Exactly (answer_of c ≡ Refused 3 p) ((p ≡ 0) × (ModeFit c.axes c.mode × ((spare_bytes (length c.job) ≡ 0 → ⊥) ⊎ (most_records < record_count c.job))))
  bad-job-length = row 3 (ModeFit c.axes c.mode × ((spare_bytes (length c.job) ≡ 0 → ⊥) ⊎ (most_records < record_count c.job))) (omega arith) (omega arith) (early-length c.axes c.mode c.job (length c.work) (length c.pairs))

  -- R4 WORK_SHORT
  pub work-short : Exactly (answer_of c ≡ Refused 4 p) ((p ≡ 0) × (LengthFit c.axes c.mode (length c.job) × (((length c.work) < job_work c.axes c.job) ⊎ ((length c.pairs) < pair_records))))
  work-short = row 4 (LengthFit c.axes c.mode (length c.job) × (((length c.work) < job_work c.axes c.job) ⊎ ((length c.pairs) < pair_records))) (omega arith) (omega arith) (early-work c.axes c.mode c.job (length c.work) (length c.pairs))
