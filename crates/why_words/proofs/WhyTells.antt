-- Why two ids are where they are, taken apart into numbers. Assumes nothing.
use mathlib.Core.Path.{◌≡◌, refl, sym, subst, ap, ◌∙◌}
use mathlib.Core.List.{List, [], ◌∷◌}
use Prim.Native.Nat.{ℕ, ◌+◌, ◌-◌, ◌≤◌, ◌<◌}
use native.Mathlib.Omega.{arith}
use lib.ListN.{length}
use borrow.Author.Tests.{lt-ltb, le-ltb}
use Rattle.finishing.specs.declared.answers.Report.{Report}
use Rattle.finishing.specs.Answers.{Built}
use Rattle.finishing.specs.Answers as built
use Rattle.std.specs.Prelude.{Result, Ok, Err}
use Rattle.refusals.specs.declared.Refused as refusals
use Rattle.refusals.specs.Refusals.{number}
use Rattle.why_words.specs.declared.explained.Explained.{Explained}
use Rattle.why_words.specs.declared.explained.Explained.TheVariants as explained
use Rattle.why_words.specs.Answers.{reason_of, why_of}
use Rattle.reporting.specs.Answers.{refused_words, filled, words_of}
use Rattle.reporting.proofs.ReportLaws.{filled-all}
use Rattle.why_words.specs.Answers.{Why}
use Rattle.why_words.specs.Answers.{Refused, Same, CutApart, NeverJoined}
use Rattle.why_words.specs.Explained.{OutFits}
use Rattle.why_words.specs.WhyWords.{why_number, cost_limit, gain_as_word, reason_words, why_report}

-- ---- what is asked

module _ (b : Built) (out : List ℕ) where
  pub bytes_fit : (d : Report) → b ≡ built.Done d → OutFits b out → d.bytes ≤ length out
  bytes_fit d e h = subst (λ (q : Built). OutFits q out) e h

-- ---- the gain

module _ (a b j : ℕ) where
  pub gain-first : cost_limit ≤ a → 0 ≡ gain_as_word a b j
  unfolding gain_as_word
  gain-first h = rw (le-ltb a cost_limit h) refl

  module _ (one : a < cost_limit) where
    pub gain-second : cost_limit ≤ b → 0 ≡ gain_as_word a b j
    unfolding gain_as_word
    gain-second h = rw (lt-ltb a cost_limit one, le-ltb b cost_limit h) refl

    module _ (two : b < cost_limit) where
      pub gain-below : a + b < j → j - (a + b) ≤ 18446744073709551616 → 18446744073709551615 - (j - (a + b) - 1) ≡ gain_as_word a b j
      unfolding gain_as_word
      gain-below h k = rw (lt-ltb a cost_limit one, lt-ltb b cost_limit two, lt-ltb (a + b) j h) (omega arith)

      pub gain-above : j ≤ a + b → a + b - j ≡ gain_as_word a b j
      unfolding gain_as_word
      gain-above h = rw (lt-ltb a cost_limit one, lt-ltb b cost_limit two, le-ltb (a + b) j h) refl

-- ---- as numbers

sixteen-long : (job : List ℕ) (y : Why) → length (why_report job y) ≡ 16
unfolding why_report refused_words reason_words
sixteen-long job (Refused n at) = refl
sixteen-long job Same = refl
sixteen-long job CutApart = refl
sixteen-long job (NeverJoined a b j) = refl

-- of a reason the job's bytes say nothing more
any-job : (job : List ℕ) (r : Explained) → why_report [] (reason_of r) ≡ why_report job (reason_of r)
unfolding why_report
any-job job explained.Same = refl
any-job job explained.CutApart = refl
any-job job (explained.NeverJoined a b j) = refl

no_number : (r : Explained) → 0 ≡ why_number (reason_of r)
unfolding why_number
no_number explained.Same = refl
no_number explained.CutApart = refl
no_number (explained.NeverJoined a b j) = refl

module _ (job : List ℕ) (a : Result Explained refusals.Refused) (old : List ℕ) (long : length old ≡ 16) where
  all : why_report job (why_of a) ≡ filled 0 (why_report job (why_of a)) old
  all = sym (filled-all (why_report job (why_of a)) old (long ∙ sym (sixteen-long job (why_of a))))

  pub told-number : (r : Explained) → a ≡ Ok r → 0 ≡ why_number (why_of a)
  told-number r e = rw e (no_number r)

  pub told-reason : (r : Explained) → a ≡ Ok r → why_report [] (reason_of r) ≡ filled 0 (why_report job (why_of a)) old
  told-reason r e = any-job job r ∙ ap (λ (x : Result Explained refusals.Refused). why_report job (why_of x)) (sym e) ∙ all

  pub refused-number : (x : refusals.Refused) → a ≡ Err x → number x.refusal ≡ why_number (why_of a)
  unfolding why_number
  refused-number x e = rw e refl

  pub told-refused : (x : refusals.Refused) → a ≡ Err x → words_of job x ≡ filled 0 (why_report job (why_of a)) old
  told-refused x e = same x ∙ ap (λ (y : Result Explained refusals.Refused). why_report job (why_of y)) (sym e) ∙ all
    where
      same : (x : refusals.Refused) → words_of job x ≡ why_report job (Refused (number x.refusal) x.place)
      same x = unfold why_report in refl

-- computed: 120 and 96 apart, 230 as one: 14 more
worked : why_report [] (NeverJoined 120 96 230)
    ≡ 0 ∷ 0 ∷ 3 ∷ 120 ∷ 96 ∷ 230 ∷ 0xFFFF_FFFF_FFFF_FFF2 ∷ 0 ∷ 0 ∷ 0 ∷ 0 ∷ 0 ∷ 0 ∷ 0 ∷ 0 ∷ 0 ∷ []
unfolding why_report reason_words gain_as_word
worked = refl
