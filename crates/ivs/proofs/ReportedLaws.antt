-- What a host has after a call (specs/Reported.antt). Assumes nothing.
use mathlib.Core.Path.{◌≡◌, ap, ◌∙◌}
use mathlib.Core.List.{List}
use Prim.Native.Nat.{ℕ}
use lib.ListN.{length}
use Rattle.call.specs.Lending.{Lending, Left}
use Rattle.reporting.specs.Answers.{number_of, report_words}
use Rattle.ivs.specs.Answered.{Answered}
use Rattle.ivs.specs.Reported.{Reported}
use Rattle.reporting.proofs.ReportLaws.{sixteen}

-- THE LAW
pub reported : {c : Lending} {number : ℕ} {l : Left} {old new : List ℕ} → Answered c number l old new → length old ≡ 16 → Reported c number l new
reported {c} {number} {l} {old} {new} t e = record {
  number_is = t.number_is ∙ ap number_of t.obeys.answer;
  left_is = t.obeys.left;
  report-is = t.report-is ∙ sixteen c.job t.answer old e ∙ ap (report_words c.job) t.obeys.answer;
}
