use mathlib.Core.Path.{sym, ◌∙◌}
use Rattle.reporting.specs.Answers.{refused_words}
use Rattle.reporting.proofs.ReportLaws.{refused-filled}
use Rattle.reporting.proofs.report.tell_refused.Goals as goal

pub returns : goal.returns
returns c = let a = c.args in c.numbered_words.ensures ∙ sym (refused-filled a.no a.at a.byte a.report.now c.told-report)
