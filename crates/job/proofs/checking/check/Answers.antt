use mathlib.Core.Path.{sym, ap, ◌∙◌}
use native.Mathlib.Omega.{arith}
use Rattle.std.proofs.Common.{rules}
use Rattle.job.proofs.FillLaws.{filled-part}
use Rattle.refusals.proofs.Passing.{passed}
use Rattle.job.specs.Check.{checked, checked_of, uses_in, uses_of}
use Rattle.job.proofs.CheckLaws.{room, refused-early, left-early, left-zeros, checked_as, uses_as}
use Rattle.job.proofs.checking.check.Goals as goal

pub returns-in_err-check_early-clause-value : goal.returns-in_err-check_early-clause-value
unfolding checked checked_of
returns-in_err-check_early-clause-value c =
    let a = c.args in
    rw (passed c.from_residual.result c.from_residual.ensures.1)
    (sym (ap checked_of (refused-early a.axes a.mode a.job.now a.work.now a.pairs c.in_err-check_early.field-0.0 c.in_err-check_early.ensures.value)))

pub returns-in_err-check_early-clause-uses : goal.returns-in_err-check_early-clause-uses
unfolding uses_in uses_of
returns-in_err-check_early-clause-uses c =
    let a = c.args in
    rw (passed c.from_residual.result c.from_residual.ensures.1)
    (sym (ap uses_of (refused-early a.axes a.mode a.job.now a.work.now a.pairs c.in_err-check_early.field-0.0 c.in_err-check_early.ensures.value)))

pub returns-in_err-check_early-clause-work_after : goal.returns-in_err-check_early-clause-work_after
returns-in_err-check_early-clause-work_after c =
    let a = c.args in
    left-early a.axes a.mode a.job.now a.work.now a.pairs c.in_err-check_early.field-0.0 c.in_err-check_early.ensures.value

pub read_job-answer-requires : goal.read_job-answer-requires
read_job-answer-requires c =
    let o = c.in_ok-check_early.ensures.fact in
    omega (arith, o.some, o.most, o.few, o.whole, room _ _ _ _ _ o, c.records_in.ensures)

pub returns-in-Ok-clause-value : goal.returns-in-Ok-clause-value
unfolding checked
returns-in-Ok-clause-value c =
    let a = c.args in
    sym (ap checked c.in-Ok.is)
    ∙ checked_as a.axes a.mode a.job.now a.work.now a.pairs c.in_ok-check_early.ensures.value c.read_job-answer.result c.records_in.ensures c.read_job-answer.ensures

pub returns-in-Ok-clause-uses : goal.returns-in-Ok-clause-uses
unfolding uses_in
returns-in-Ok-clause-uses c =
    let a = c.args in
    sym (ap uses_in c.in-Ok.is)
    ∙ uses_as a.axes a.mode a.job.now a.work.now a.pairs c.in_ok-check_early.ensures.value c.read_job-answer.result c.records_in.ensures c.read_job-answer.ensures

pub returns-in-Ok-clause-work_after : goal.returns-in-Ok-clause-work_after
returns-in-Ok-clause-work_after c =
    let a = c.args in
    left-zeros a.axes a.mode a.job.now a.work.now a.pairs c.in_ok-check_early.ensures.value _ (search (rules, filled-part, c.read_job-answer.ensures.only.long))

pub returns-in-Err-clause-value : goal.returns-in-Err-clause-value
unfolding checked
returns-in-Err-clause-value c =
    let a = c.args in
    sym (ap checked c.in-Err.is)
    ∙ checked_as a.axes a.mode a.job.now a.work.now a.pairs c.in_ok-check_early.ensures.value c.read_job-answer.result c.records_in.ensures c.read_job-answer.ensures

pub returns-in-Err-clause-uses : goal.returns-in-Err-clause-uses
unfolding uses_in
returns-in-Err-clause-uses c =
    let a = c.args in
    sym (ap uses_in c.in-Err.is)
    ∙ uses_as a.axes a.mode a.job.now a.work.now a.pairs c.in_ok-check_early.ensures.value c.read_job-answer.result c.records_in.ensures c.read_job-answer.ensures

pub returns-in-Err-clause-work_after : goal.returns-in-Err-clause-work_after
returns-in-Err-clause-work_after c =
    let a = c.args in
    left-zeros a.axes a.mode a.job.now a.work.now a.pairs c.in_ok-check_early.ensures.value _ (search (rules, filled-part, c.read_job-answer.ensures.only.long))
