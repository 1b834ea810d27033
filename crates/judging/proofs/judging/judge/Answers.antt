use Rattle.refusals.proofs.Passing.{passed}
use Rattle.judging.proofs.CallLaws.{refused-first, left-first, left-zeros, walked}
use borrow.Author.Rules.{rules}
use Rattle.job.proofs.FillLaws.{filled-part}
use Rattle.judging.proofs.judging.judge.Goals as goal

pub returns-in_err-check_judging : goal.returns-in_err-check_judging
returns-in_err-check_judging c =
    let a = c.args in
    let x = c.in_err-check_judging.field-0.0 in
    let e = c.in_err-check_judging.ensures.value in
    record { value = rw (passed c.from_residual.result c.from_residual.ensures.1) (refused-first a.axes a.job.now a.store.now a.words.now a.work.now x e); work_after = left-first a.axes a.job.now a.store.now a.words.now a.work.now x e }

pub returns : goal.returns
returns c =
    let a = c.args in
    let e = c.in_ok-check_judging.ensures.value in
    record { value = walked a.axes a.job.now a.store.now a.words.now a.work.now e _ c.judge_records-answer.ensures; work_after = left-zeros a.axes a.job.now a.store.now a.words.now a.work.now e _ (search (rules, filled-part)) }
