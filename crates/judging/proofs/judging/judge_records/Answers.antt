use native.Mathlib.Omega.{arith}
use Rattle.refusals.proofs.Passing.{passed}
use Rattle.judging.proofs.CallLaws.{refused-record, stands, answered}
use Rattle.judging.proofs.judging.judge_records.Goals as goal

pub read_job-requires : goal.read_job-requires
read_job-requires c = let o = c.requires in omega (arith, o.passed.some, o.passed.most, o.passed.few, o.passed.whole, o.room, c.records_in-records.ensures)

pub returns-in_err-counts : goal.returns-in_err-counts
returns-in_err-counts c =
    let a = c.args in
    rw (passed c.from_residual.result c.from_residual.ensures.1)
    (refused-record a.axes a.job.now a.store.now a.words.now a.work.now c.records_in-records.ensures c.in_err-counts.field-0.0 c.in_err-counts.ensures)

pub by_store-requires : goal.by_store-requires
by_store-requires c =
    let a = c.args in
    stands a.axes a.job.now a.store.now a.words.now a.work.now c.records_in-records.ensures (λ k. omega (arith, c.type_inv.job k)) c.requires c.in_ok-counts.counts c.in_ok-counts.ensures

pub returns : goal.returns
returns c =
    let a = c.args in
    answered a.axes a.job.now a.store.now a.words.now a.work.now c.records_in-records.ensures (λ k. omega (arith, c.type_inv.job k)) c.requires c.in_ok-counts.counts c.in_ok-counts.ensures _ c.by_store.ensures
