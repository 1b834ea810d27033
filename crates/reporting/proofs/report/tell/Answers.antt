use mathlib.Core.Path.{◌∙◌}
use Rattle.reporting.proofs.TellLaws.{done-number, done-told, refused-number, refused-told}
use Rattle.reporting.proofs.report.tell.Goals as goal

pub returns-in-Ok-clause-value : goal.returns-in-Ok-clause-value
returns-in-Ok-clause-value c = let a = c.args in done-number a.job.now a.answer a.report.now c.told-report c.in-Ok.done c.in-Ok.is

pub returns-in-Ok-clause-report_after : goal.returns-in-Ok-clause-report_after
returns-in-Ok-clause-report_after c = let a = c.args in c.done_words.ensures ∙ done-told a.job.now a.answer a.report.now c.told-report c.in-Ok.done c.in-Ok.is

pub returns-in-Err-clause-value : goal.returns-in-Err-clause-value
returns-in-Err-clause-value c = let a = c.args in c.tell_refusal.ensures.value ∙ refused-number a.job.now a.answer a.report.now c.told-report c.in-Err.refused c.in-Err.is

pub returns-in-Err-clause-report_after : goal.returns-in-Err-clause-report_after
returns-in-Err-clause-report_after c = let a = c.args in c.tell_refusal.ensures.report_after ∙ refused-told a.job.now a.answer a.report.now c.told-report c.in-Err.refused c.in-Err.is
