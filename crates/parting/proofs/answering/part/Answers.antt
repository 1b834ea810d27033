use Rattle.refusals.proofs.Passing.{passed}
use Rattle.said.specs.Refusals.{pair_records}
use Rattle.job.proofs.CheckLaws.{left-early, left-zeros}
use Rattle.parting.proofs.AnswerLaws.{refused-first, walked}
use borrow.Author.Rules.{rules}
use Rattle.job.proofs.FillLaws.{filled-part}
use Rattle.parting.proofs.answering.part.Goals as goal

pub returns-in_err-check_early : goal.returns-in_err-check_early
returns-in_err-check_early c =
    let a = c.args in
    let x = c.in_err-check_early.field-0.0 in
    let e = c.in_err-check_early.ensures.value in
    record { value = rw (passed c.from_residual.result c.from_residual.ensures.1) (refused-first a.axes a.first a.second a.job.now a.work.now x e); work_after = left-early a.axes 0 a.job.now a.work.now pair_records x e }

pub returns : goal.returns
returns c =
    let a = c.args in
    let e = c.in_ok-check_early.ensures.value in
    record { value = walked a.axes a.first a.second a.job.now a.work.now e _ c.part_records-answer.ensures; work_after = left-zeros a.axes 0 a.job.now a.work.now pair_records e _ (search (rules, filled-part)) }
