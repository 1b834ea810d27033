-- A build's answer by its words. Assumes nothing.
use mathlib.Core.Path.{◌≡◌, refl, sym}
use mathlib.Core.List.{List}
use Prim.Native.Nat.{ℕ}
use lib.ListN.{length}
use Rattle.std.specs.Prelude.{Result, Ok, Err}
use Rattle.refusals.specs.declared.Refused as refusals
use Rattle.refusals.specs.Refusals.{number}
use Rattle.finishing.specs.declared.answers.Report.{Report}
use Rattle.finishing.specs.Answers.{Refused, Done, built}
use Rattle.reporting.specs.Answers.{number_of, byte_told, done_words, report_words, filled, words_of}
use Rattle.reporting.proofs.ReportLaws.{sixteen}

module _ (job : List ℕ) (a : Result Report refusals.Refused) (old : List ℕ) (sixteen-long : length old ≡ 16) where
  pub done-number : (d : Report) → a ≡ Ok d → 0 ≡ number_of (built a)
  unfolding number_of
  done-number d e = rw e refl

  pub done-told : (d : Report) → a ≡ Ok d → done_words d ≡ filled 0 (report_words job (built a)) old
  unfolding report_words
  done-told d e = rw e (sym (sixteen job (Done d) old sixteen-long))

  pub refused-number : (x : refusals.Refused) → a ≡ Err x → number x.refusal ≡ number_of (built a)
  unfolding number_of
  refused-number x e = rw e refl

  pub refused-told : (x : refusals.Refused) → a ≡ Err x → words_of job x ≡ filled 0 (report_words job (built a)) old
  unfolding report_words byte_told
  refused-told x e = rw e (sym (sixteen job (Refused (number x.refusal) x.place) old sixteen-long))
