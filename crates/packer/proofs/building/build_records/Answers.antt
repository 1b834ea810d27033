use Rattle.refusals.proofs.Passing.{passed}
use Rattle.closing.proofs.CloseLaws.{settle-refused}
use Rattle.packer.proofs.BuildLaws.{ready_at}
use Rattle.packer.proofs.PairLaws.{pairs-enough}
use Rattle.packer.proofs.building.build_records.Goals as goal

pub returns-in_err-stage : goal.returns-in_err-stage
returns-in_err-stage c =
    let a = c.args in
    rw (passed c.from_residual.result c.from_residual.ensures.1)
    (settle-refused a.profile a.axes a.mode a.job.now _ c.in_err-stage.field-0.0 _ (rw c.records_in-records.ensures at c.in_err-stage.ensures.is) _)

pub optimize-merged-requires-clause-groups_in_bounds : goal.optimize-merged-requires-clause-groups_in_bounds
optimize-merged-requires-clause-groups_in_bounds c = pairs-enough c.requires c.tables.result (ready_at c.tables.result c.in_ok-stage.stage c.tables.ensures c.in_ok-stage.ensures.ready)
