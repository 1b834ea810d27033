use mathlib.Core.Path.{ap, ◌∙◌}
use Rattle.refusals.proofs.Passing.{passed}
use Rattle.said.specs.Records.{record_count}
use Rattle.said.specs.Job.{in_axes, records_from}
use Rattle.call.specs.Foretold.{foretold_from}
use Rattle.panel.proofs.PanelledLaws.{panelled-plain}
use Rattle.closing.proofs.CloseLaws.{foretell-refused}
use Rattle.packer.proofs.BuildLaws.{ready_at, joined_at}
use Rattle.packer.proofs.PairLaws.{pairs-enough}
use Rattle.packer.proofs.foretelling.foretell_records.Goals as goal

pub returns-in_err-stage : goal.returns-in_err-stage
returns-in_err-stage c =
    let a = c.args in
    rw (passed c.from_residual.result c.from_residual.ensures.1)
    (foretell-refused a.axes a.mode a.job.now _ c.in_err-stage.field-0.0 _ (rw c.records_in-records.ensures at c.in_err-stage.ensures.is)
    ∙ ap (foretold_from a.axes a.mode) (panelled-plain a.job.now (records_from a.axes a.mode a.job.now a.job.now (record_count a.job.now) 0 in_axes)))

pub optimize-merged-requires-clause-groups_in_bounds : goal.optimize-merged-requires-clause-groups_in_bounds
optimize-merged-requires-clause-groups_in_bounds c = pairs-enough c.requires c.tables.result (ready_at c.tables.result c.in_ok-stage.stage c.tables.ensures c.in_ok-stage.ensures.ready)

pub returns : goal.returns
returns c =
    let a = c.args in
    c.foresee_stage.ensures a.axes a.mode a.job.now _ _ (rw c.records_in-records.ensures at c.in_ok-stage.ensures.is) (joined_at c.tables.result c.in_ok-stage.stage c.tables.ensures c.optimize-merged.ensures.optimized)
    ∙ ap (foretold_from a.axes a.mode) (panelled-plain a.job.now (records_from a.axes a.mode a.job.now a.job.now (record_count a.job.now) 0 in_axes))
