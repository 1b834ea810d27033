use Rattle.refusals.proofs.Passing.{passed}
use Rattle.opening.proofs.OpenLaws.{opened-early, opened-late}
use Rattle.opening.proofs.opening.open.Goals as goal

pub returns-in_err-check_early : goal.returns-in_err-check_early
returns-in_err-check_early c =
    let a = c.args in
    rw (passed c.from_residual.result c.from_residual.ensures.1)
    (opened-early a.profile a.axes a.mode a.job.now a.work.now a.pairs c.in_err-check_early.field-0.0 c.in_err-check_early.ensures.value)

pub returns : goal.returns
returns c =
    let a = c.args in
    opened-late a.profile a.axes a.mode a.job.now a.work.now a.pairs c.in_ok-check_early.ensures.value _ c.records_in.ensures c.open_records.ensures
