-- Which part of a build answers: the tests before the records, a record, the end of the job, or the tests after it. Assumes nothing.
use mathlib.Core.Path.{◌≡◌, refl, sym, ap, subst, ◌∙◌}
use mathlib.Core.List.{List}
use mathlib.Core.Logic.{◌⊎◌, inl, inr, ⊎_elim}
use Prim.Native.Nat.{ℕ, zero, suc, ◌≤◌, ◌<◌}
use native.Mathlib.Omega.{arith}
use lib.ListN.{length}
use borrow.Author.Tests.{ne_eqb}
use Rattle.laws.proofs.Cases.{lt-or-ge, same_or_not}
use Rattle.said.specs.Records.{record_count}
use Rattle.said.specs.Refusals.{early_refusal}
use Rattle.said.specs.Job.{Said, in_axes, Outcome, refused, fine, records_from, outcome, outcome_from}
use Rattle.finishing.specs.Answers.{Refused, Done}
use Rattle.finishing.specs.Buffers.{Lengths, lengths}
use Rattle.finishing.specs.Late.{late_no, late_answer, report_of}
use Rattle.call.specs.Lending.{Lending}
use Rattle.call.specs.Build.{coords_in_use, packed_of, answer_from, outcome_of, answer_of}
use Rattle.refusing.proofs.FailedLaws.{among, among-such}
use Rattle.refusing.proofs.WalkEnds.{walk_no}

-- ---- the numbers of each part

early-some : (axes mode : ℕ) (job : List ℕ) (work pairs : ℕ) → (early_refusal axes mode job work pairs ≡ 0) ⊎ ((1 ≤ early_refusal axes mode job work pairs) × (early_refusal axes mode job work pairs ≤ 4))
unfolding early_refusal
early-some axes mode job work pairs =
    among 1 4 _
    ((omega arith, omega arith), ((omega arith, omega arith), ((omega arith, omega arith), ((omega arith, omega arith), ((omega arith, omega arith), tt)))))

pub early-few : (axes mode : ℕ) (job : List ℕ) (work pairs : ℕ) → early_refusal axes mode job work pairs ≤ 4
early-few axes mode job work pairs =
    ⊎_elim (λ (z : early_refusal axes mode job work pairs ≡ 0). omega arith) (λ (z : (1 ≤ early_refusal axes mode job work pairs) × (early_refusal axes mode job work pairs ≤ 4)). z.1)
    (early-some axes mode job work pairs)

-- those of the tests after the records: 10 to 14, 60 and 61
pub record LateNo (n : ℕ) : Type 0 where
  pub some : 10 ≤ n
  pub few : (n ≤ 14) ⊎ ((60 ≤ n) × (n ≤ 61))

pub no-low : {n : ℕ} → 10 ≤ n → n ≤ 14 → LateNo n
no-low p q = record { some = p; few = inl q }

pub no-high : {n : ℕ} → 60 ≤ n → n ≤ 61 → LateNo n
no-high p q = record { some = omega arith; few = inr (p, q) }

pub late-many : (axes : ℕ) (s : Said) (mode : ℕ) (l : Lengths)
    → (late_no axes (coords_in_use s) (packed_of mode s) l ≡ 0) ⊎ LateNo (late_no axes (coords_in_use s) (packed_of mode s) l)
unfolding late_no
late-many axes s mode l =
    among-such LateNo _
    (no-low (omega arith) (omega arith), (no-low (omega arith) (omega arith), (no-low (omega arith) (omega arith), (no-low (omega arith) (omega arith), (no-high (omega arith) (omega arith), (no-high (omega arith) (omega arith), (no-low (omega arith) (omega arith), tt)))))))

-- ---- the outcome

module _ (c : Lending) where
  abbrev pub walked : Outcome
  walked = records_from c.axes c.mode c.job c.job (record_count c.job) 0 in_axes

  abbrev pub early : ℕ
  early = early_refusal c.axes c.mode c.job (length c.work) (length c.pairs)

  pub outcome-early : (n : ℕ) → early ≡ n → 0 < n → outcome_of c ≡ refused n 0
  unfolding outcome
  outcome-early n e h = go early e
    where
      go : (k : ℕ) → k ≡ n → outcome_from k walked ≡ refused n 0
      go zero f = absurd (omega arith)
      go (suc k) f = unfold outcome_from in ap (λ (x : ℕ). refused x 0) f

  pub outcome-walked : early ≡ 0 → outcome_of c ≡ walked
  unfolding outcome outcome_from
  outcome-walked e = rw e

  -- where none of 1 to 4 is given, records answer; else the number at place 0
  pub outcome-by : (early ≡ 0) ⊎ ((0 < early) × (outcome_of c ≡ refused early 0))
  outcome-by = ⊎_elim inl (λ d. let h : 0 < early = omega arith in inr (h, outcome-early early refl h)) (same_or_not early 0)

  pub early-only : (n p : ℕ) → n ≤ 4 → outcome_of c ≡ refused n p → (early ≡ n) × (p ≡ 0)
  early-only n p h e = ⊎_elim none some outcome-by
    where
      none : early ≡ 0 → (early ≡ n) × (p ≡ 0)
      none z = let w = walk_no c.axes c.mode c.job (record_count c.job) n p (sym (outcome-walked z) ∙ e) in let l = w.low in absurd (omega arith)

      some : (0 < early) × (outcome_of c ≡ refused early 0) → (early ≡ n) × (p ≡ 0)
      some f = let g = f.1 in let a : early ≡ n = cc in let b : p ≡ 0 = cc in (a, b)

  pub walked-only : (o : Outcome) → ((n p : ℕ) → o ≡ refused n p → 5 ≤ n) → outcome_of c ≡ o → (early ≡ 0) × (walked ≡ o)
  walked-only o d e = ⊎_elim none some outcome-by
    where
      none : early ≡ 0 → (early ≡ 0) × (walked ≡ o)
      none z = (z, sym (outcome-walked z) ∙ e)

      some : (0 < early) × (outcome_of c ≡ refused early 0) → (early ≡ 0) × (walked ≡ o)
      some f = let b = early-few c.axes c.mode c.job (length c.work) (length c.pairs) in let a = d early 0 (sym e ∙ f.1) in absurd (omega arith)

-- ---- the answer

-- the numbers of a job's refusals
pub record JobNo (n : ℕ) : Type 0 where
  pub some : 0 < n
  pub most : n ≤ 34
  pub gap : 9 < n → 30 ≤ n
  pub not_five : n ≡ 5 → ⊥

module _ (c : Lending) where
  -- the number of the tests after the records
  abbrev pub late : Said → ℕ
  late s = late_no c.axes (coords_in_use s) (packed_of c.mode s) (lengths c.lent)

  pub answer-refused : (n p : ℕ) → outcome_of c ≡ refused n p → answer_of c ≡ Refused n p
  unfolding answer_of answer_from
  answer-refused n p e = rw e

  pub answer-late : (s : Said) (n : ℕ) → outcome_of c ≡ fine s → late s ≡ n → 0 < n → answer_of c ≡ Refused n 0
  unfolding answer_of answer_from late_answer
  answer-late s n e f h = rw (e, f, ne_eqb n 0 (λ (z : n ≡ 0). omega arith))

  pub answer-done : (s : Said) → outcome_of c ≡ fine s → late s ≡ 0 → answer_of c ≡ Done (report_of c.axes (coords_in_use s) (packed_of c.mode s))
  unfolding answer_of answer_from late_answer
  answer-done s e f = rw (e, f)

  -- who answers
  pub data Answers : Type 0 where
    by-job : (n p : ℕ) → outcome_of c ≡ refused n p → answer_of c ≡ Refused n p → JobNo n → Answers
    by-late : (s : Said) → outcome_of c ≡ fine s → LateNo (late s) → answer_of c ≡ Refused (late s) 0 → Answers
    done : (s : Said) → outcome_of c ≡ fine s → late s ≡ 0 → answer_of c ≡ Done (report_of c.axes (coords_in_use s) (packed_of c.mode s)) → Answers

  job-no : (n p : ℕ) → outcome_of c ≡ refused n p → JobNo n
  job-no n p e =
      ⊎_elim (λ z. let w = walk_no c.axes c.mode c.job (record_count c.job) n p (sym (outcome-walked c z) ∙ e) in let l = w.low in record { some = omega arith; most = w.high; gap = w.gap; not_five = λ x. omega arith })
      (λ f. let g = f.1 in let a : early c ≡ n = cc in let b = early-few c.axes c.mode c.job (length c.work) (length c.pairs) in let h = f.0 in record { some = omega arith; most = omega arith; gap = λ x. omega arith; not_five = λ x. omega arith })
      (outcome-by c)

  pub job-numbers : (n p : ℕ) → outcome_of c ≡ refused n p → n ≤ 34
  job-numbers n p e = (job-no n p e).most

  pub answers : Answers
  answers = go (outcome_of c) refl
    where
      go : (o : Outcome) → outcome_of c ≡ o → Answers
      go (refused n p) e = by-job n p e (answer-refused n p e) (job-no n p e)
      go (fine s) e =
          ⊎_elim (λ z. done s e z (answer-done s e z)) (λ h. by-late s e h (let l = h.some in answer-late s (late s) e refl (omega arith)))
          (late-many c.axes s c.mode (lengths c.lent))

  pub job_only : (n p : ℕ) → (9 < n → (30 ≤ n) × (n ≤ 34)) → answer_of c ≡ Refused n p → outcome_of c ≡ refused n p
  job_only n p h e = go answers
    where
      go : Answers → outcome_of c ≡ refused n p
      go (by-job m q f g b) = cc
      go (by-late s f b g) =
          let z : late s ≡ n = cc in
          let l = b.some in
          let k = h (omega arith) in
          absurd (⊎_elim (λ (m : late s ≤ 14). omega (arith, k.0)) (λ (m : (60 ≤ late s) × (late s ≤ 61)). omega (arith, k.1, m.0)) b.few)
      go (done s f b g) = let z : ◌≡◌ {A = ℕ} 0 1 = cc in absurd (omega arith)

  pub late-only : (n p : ℕ) → LateNo n → answer_of c ≡ Refused n p → (p ≡ 0) × (s : Said) × (outcome_of c ≡ fine s) × (late s ≡ n)
  late-only n p ok e = go answers
    where
      go : Answers → (p ≡ 0) × (s : Said) × (outcome_of c ≡ fine s) × (late s ≡ n)
      go (by-job m q f g b) =
          let z : m ≡ n = cc in
          let l = ok.some in
          let k = b.gap (omega arith) in
          let t = b.most in
          absurd (⊎_elim (λ (x : n ≤ 14). omega arith) (λ (x : (60 ≤ n) × (n ≤ 61)). omega (arith, x.0)) ok.few)
      go (by-late s f b g) = let z : late s ≡ n = cc in let y : p ≡ 0 = cc in (y, s, f, z)
      go (done s f b g) = let z : ◌≡◌ {A = ℕ} 0 1 = cc in absurd (omega arith)

  -- there are no numbers but those of the table
  pub numbers : (n p : ℕ) → answer_of c ≡ Refused n p → (1 ≤ n) × (n ≡ 5 → ⊥) × ((n ≤ 14) ⊎ (((30 ≤ n) × (n ≤ 34)) ⊎ ((60 ≤ n) × (n ≤ 61))))
  numbers n p e = go answers
    where
      go : Answers → (1 ≤ n) × (n ≡ 5 → ⊥) × ((n ≤ 14) ⊎ (((30 ≤ n) × (n ≤ 34)) ⊎ ((60 ≤ n) × (n ≤ 61))))
      go (by-job m q f g b) =
          let z : m ≡ n = cc in
          let s = b.some in
          let h = b.most in
          (omega arith, λ x. b.not_five (z ∙ x), ⊎_elim (λ (l : 9 < n). inr (inl (subst (λ (k : ℕ). 30 ≤ k) z (b.gap (omega arith)), omega arith))) (λ (l : n ≤ 9). inl (omega arith)) (lt-or-ge 9 n))
      go (by-late s f b g) =
          let z : late s ≡ n = cc in
          let l = b.some in
          (omega arith, λ x. omega arith, ⊎_elim (λ (h : late s ≤ 14). inl (omega arith)) (λ (h : (60 ≤ late s) × (late s ≤ 61)). inr (inr (omega (arith, h.0), omega (arith, h.1)))) b.few)
      go (done s f b g) = let z : ◌≡◌ {A = ℕ} 0 1 = cc in absurd (omega arith)

  pub numbers-most : (n p : ℕ) → answer_of c ≡ Refused n p → n ≤ 61
  numbers-most n p e =
      ⊎_elim (λ (h : n ≤ 14). omega arith) (λ k. ⊎_elim (λ (h : (30 ≤ n) × (n ≤ 34)). omega (arith, h.1)) (λ (h : (60 ≤ n) × (n ≤ 61)). h.1) k) (numbers n p e).2
