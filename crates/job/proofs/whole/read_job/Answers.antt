use Rattle.refusals.proofs.Passing.{passed}
use Rattle.job.proofs.WholeLaws.{span, regions-fit, sets-refused, job_read}
use native.Mathlib.Omega.{arith}
use Rattle.job.proofs.whole.read_job.Goals as goal

pub returns-in_err-counts : goal.returns-in_err-counts
returns-in_err-counts c =
    let a = c.args in
    let at = c.in_ok-from.from in
    rw (passed c.from_residual-in_err-counts.result c.from_residual-in_err-counts.ensures.1)
    (sets-refused a.axes a.mode a.job.now a.records at a.work.now _ _ c.in_ok-from.ensures c.prepare.ensures c.read_sets.result (rw c.tables_at-t.ensures at c.read_sets.ensures) c.in_err-counts.field-0.0 c.in_err-counts.was)

pub returns : goal.returns
returns c =
    let a = c.args in
    let at = c.in_ok-from.from in
    job_read a.axes a.mode a.job.now a.records at a.work.now _ _ c.in_ok-from.ensures c.prepare.ensures c.read_sets.ensures.only.long (omega (arith, c.requires)) (omega (arith, span at a.axes 6, c.in_ok-from.ensures.within)) (regions-fit at a.axes a.records c.in_ok-from.ensures.within)
    c.read_sets.result (rw c.tables_at-t.ensures at c.read_sets.ensures) c.in_ok-counts.counts c.in_ok-counts.was
