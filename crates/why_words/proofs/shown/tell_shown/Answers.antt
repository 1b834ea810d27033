use mathlib.Core.Path.{ap, ◌∙◌}
use Rattle.showing.specs.Answers.{shown_of, part_of}
use Rattle.why_words.proofs.ShownTells.{refused-number, told-refused, number-job, number-store, told-job, told-store}
use Rattle.why_words.proofs.shown.tell_shown.Goals as goal

pub returns-in-InJob : goal.returns-in-InJob
returns-in-InJob c =
    let a = c.args in
    let w = c.in-InJob in
    let e = ap shown_of c.in-Ok.is ∙ ap part_of w.is in
    record {
      value = number-job a.job.now a.store.now (shown_of a.answer) a.report.now c.told-report w.at w.field-1 e;
      report_after = c.span_words.ensures ∙ told-job a.job.now a.store.now (shown_of a.answer) a.report.now c.told-report w.at w.field-1 _ c.shown-long.ensures.result_value c.requires.1 e;
    }

pub returns-in-InStore : goal.returns-in-InStore
returns-in-InStore c =
    let a = c.args in
    let w = c.in-InStore in
    let e = ap shown_of c.in-Ok.is ∙ ap part_of w.is in
    record {
      value = number-store a.job.now a.store.now (shown_of a.answer) a.report.now c.told-report w.at w.field-1 e;
      report_after = c.span_words-in-InStore.ensures ∙ told-store a.job.now a.store.now (shown_of a.answer) a.report.now c.told-report w.at w.field-1 _ c.shown-long.ensures.result_value c.requires.1 e;
    }

pub returns-in-Err : goal.returns-in-Err
returns-in-Err c =
    let a = c.args in
    let e = ap shown_of c.in-Err.is in
    record {
      value = c.tell_refusal.ensures.value ∙ refused-number a.job.now a.store.now (shown_of a.answer) a.report.now c.told-report _ _ e;
      report_after = c.tell_refusal.ensures.report_after ∙ told-refused a.job.now a.store.now (shown_of a.answer) a.report.now c.told-report c.in-Err.refused e;
    }
