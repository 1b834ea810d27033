use mathlib.Core.Path.{◌∙◌}
use Rattle.why_words.proofs.WhyTells.{told-number, told-reason, refused-number, told-refused}
use Rattle.why_words.proofs.told.tell_why.Goals as goal

pub returns-in-Ok : goal.returns-in-Ok
returns-in-Ok c =
    let a = c.args in
    record {
      value = told-number a.job.now a.answer a.report.now c.told-report c.in-Ok.reason c.in-Ok.is;
      report_after = c.words_of.ensures ∙ told-reason a.job.now a.answer a.report.now c.told-report c.in-Ok.reason c.in-Ok.is;
    }

pub returns-in-Err : goal.returns-in-Err
returns-in-Err c =
    let a = c.args in
    record {
      value = c.tell_refusal.ensures.value ∙ refused-number a.job.now a.answer a.report.now c.told-report c.in-Err.refused c.in-Err.is;
      report_after = c.tell_refusal.ensures.report_after ∙ told-refused a.job.now a.answer a.report.now c.told-report c.in-Err.refused c.in-Err.is;
    }
