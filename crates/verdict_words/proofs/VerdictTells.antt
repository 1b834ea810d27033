-- A verdict taken apart into numbers. Assumes nothing.
use mathlib.Core.Path.{◌≡◌, refl, sym, ap, ◌∙◌}
use mathlib.Core.List.{List, []}
use Prim.Native.Nat.{ℕ}
use lib.ListN.{length}
use Rattle.judging.specs.Answers.{Judged}
use Rattle.judging.specs.Answers.{Refused, Right, WrongSet, WrongStore}
use Rattle.judging.specs.Judge.{judge_of, judge_left}
use Rattle.std.specs.Prelude.{Result, Ok, Err}
use Rattle.refusals.specs.declared.Refused as refusals
use Rattle.refusals.specs.Refusals.{number}
use Rattle.judging.specs.declared.judging.Verdict.{Verdict}
use Rattle.judging.specs.declared.judging.Verdict.TheVariants as verdict
use Rattle.judging.specs.Answers.{verdict_of, judged}
use Rattle.reporting.specs.Answers.{refused_words, filled, words_of}
use Rattle.reporting.proofs.ReportLaws.{filled-all}
use Rattle.verdict_words.specs.VerdictWords.{verdict_report, judge_number, judged_words}
use Rattle.verdict_words.specs.Told.{JudgeTold}

sixteen-long : (job : List ℕ) (p : Judged) → length (judged_words job p) ≡ 16
unfolding judged_words refused_words verdict_report
sixteen-long job (Refused n at) = refl
sixteen-long job Right = refl
sixteen-long job (WrongSet k) = refl
sixteen-long job WrongStore = refl

-- of a store that was judged the job's bytes say nothing more
any-job : (job : List ℕ) (v : Verdict) → judged_words [] (verdict_of v) ≡ judged_words job (verdict_of v)
unfolding judged_words
any-job job verdict.Right = refl
any-job job (verdict.WrongSet k) = refl
any-job job verdict.WrongStore = refl

no_number : (v : Verdict) → 0 ≡ judge_number (verdict_of v)
unfolding judge_number
no_number verdict.Right = refl
no_number (verdict.WrongSet k) = refl
no_number verdict.WrongStore = refl

module _ (job : List ℕ) (a : Result Verdict refusals.Refused) (old : List ℕ) (long : length old ≡ 16) where
  all : judged_words job (judged a) ≡ filled 0 (judged_words job (judged a)) old
  all = sym (filled-all (judged_words job (judged a)) old (long ∙ sym (sixteen-long job (judged a))))

  pub told-number : (v : Verdict) → a ≡ Ok v → 0 ≡ judge_number (judged a)
  told-number v e = rw e (no_number v)

  pub told-verdict : (v : Verdict) → a ≡ Ok v → judged_words [] (verdict_of v) ≡ filled 0 (judged_words job (judged a)) old
  told-verdict v e = any-job job v ∙ ap (λ (x : Result Verdict refusals.Refused). judged_words job (judged x)) (sym e) ∙ all

  pub refused-number : (x : refusals.Refused) → a ≡ Err x → number x.refusal ≡ judge_number (judged a)
  unfolding judge_number
  refused-number x e = rw e refl

  pub told-refused : (x : refusals.Refused) → a ≡ Err x → words_of job x ≡ filled 0 (judged_words job (judged a)) old
  told-refused x e = same x ∙ ap (λ (y : Result Verdict refusals.Refused). judged_words job (judged y)) (sym e) ∙ all
    where
      same : (x : refusals.Refused) → words_of job x ≡ judged_words job (Refused (number x.refusal) x.place)
      same x = unfold judged_words in refl

-- ---- a call whole: what was answered, left and told

module _ {axes : ℕ} {job store words work work' report report' : List ℕ} {number : ℕ} where
  pub judge-whole : (r : Judged) → r ≡ judge_of axes job store words (length work) → work' ≡ judge_left axes job (length store) work → number ≡ judge_number r
      → report' ≡ filled 0 (judged_words job r) report → JudgeTold axes job store words work number work' report report'
  judge-whole r e w n h = record {
    number_is = n ∙ ap judge_number e;
    work-is = w;
    report-is = h ∙ ap (λ (x : Judged). filled 0 (judged_words job x) report) e;
  }
