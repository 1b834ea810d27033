use mathlib.Core.Path.{ap, ◌∙◌}
use Rattle.said.specs.Records.{record_count}
use Rattle.said.specs.Job.{Outcome, in_axes, records_from}
use Rattle.panel.proofs.PanelledLaws.{panelled-plain}
use Rattle.packer.proofs.BuildLaws.{ready_at, joined_at}
use Rattle.packer.proofs.PairLaws.{pairs-enough}
use Rattle.looking.proofs.LookLaws.{look-refused}
use Rattle.looking.specs.Look.{why_from}
use Rattle.why.proofs.LookLaws.{look-fit}
use Rattle.why.proofs.look_records.Goals as goal

pub returns-in_default : goal.returns-in_default
returns-in_default c =
    let a = c.args in
    look-refused a.axes a.job.now _ c.in_default.field-0 _ a.first a.second (rw c.records_in-records.ensures at c.in_default.ensures.is)
    ∙ ap (λ (o : Outcome). why_from o a.first a.second) (panelled-plain a.job.now (records_from a.axes 0 a.job.now a.job.now (record_count a.job.now) 0 in_axes))

pub optimize-merged-requires-clause-groups_in_bounds : goal.optimize-merged-requires-clause-groups_in_bounds
optimize-merged-requires-clause-groups_in_bounds c = pairs-enough c.requires c.tables.result (ready_at c.tables.result c.in-Ok.stage c.tables.ensures c.in-Ok.ensures.ready)

pub look_stage-requires : goal.look_stage-requires
look_stage-requires c =
    let a = c.args in
    look-fit a.axes a.job.now _ c.in-Ok.ensures.is (joined_at c.tables.result c.in-Ok.stage c.tables.ensures c.optimize-merged.ensures.optimized)

pub returns : goal.returns
returns c =
    let a = c.args in
    c.look_stage.ensures a.axes a.job.now _ _ (rw c.records_in-records.ensures at c.in-Ok.ensures.is) (joined_at c.tables.result c.in-Ok.stage c.tables.ensures c.optimize-merged.ensures.optimized)
    ∙ ap (λ (o : Outcome). why_from o a.first a.second) (panelled-plain a.job.now (records_from a.axes 0 a.job.now a.job.now (record_count a.job.now) 0 in_axes))
