use native.Mathlib.Omega.{arith}
use Rattle.refusals.proofs.Passing.{passed}
use Rattle.job.proofs.CheckLaws.{room}
use Rattle.parting.proofs.AnswerLaws.{refused-record, stands, answered}
use Rattle.parting.proofs.answering.part_records.Goals as goal

pub read_job-requires : goal.read_job-requires
read_job-requires c = let o = c.requires in omega (arith, o.some, o.most, o.few, o.whole, room _ _ _ _ _ o, c.records_in-records.ensures)

pub returns-in_err-counts : goal.returns-in_err-counts
returns-in_err-counts c =
    let a = c.args in
    rw (passed c.from_residual.result c.from_residual.ensures.1)
    (refused-record a.axes a.first a.second a.job.now a.work.now c.records_in-records.ensures c.in_err-counts.field-0.0 c.in_err-counts.ensures)

pub between-requires : goal.between-requires
between-requires c =
    let a = c.args in
    stands a.axes a.first a.second a.job.now a.work.now c.records_in-records.ensures (λ k. omega (arith, c.type_inv.job k)) c.requires c.in_ok-counts.counts c.in_ok-counts.ensures

pub returns : goal.returns
returns c =
    let a = c.args in
    answered a.axes a.first a.second a.job.now a.work.now c.records_in-records.ensures (λ k. omega (arith, c.type_inv.job k)) c.requires c.in_ok-counts.counts c.in_ok-counts.ensures _ c.between.ensures
