use mathlib.Core.Path.{◌≡◌, ap, ◌∙◌}
use Rattle.said.specs.Work.{axis_run}
use Rattle.said.specs.Records.{record_at, kind, axis_kind}
use Rattle.records.proofs.KindLaws.{is_by, not_by}
use Rattle.job.proofs.HeadLaws.{heading-start, heading-more, heading-other, heading-all}
use native.Mathlib.Omega.{arith}
use Rattle.job.proofs.head.head_run.Goals as goal

pub loop-i-init : goal.loop-i-init
loop-i-init c = heading-start _ _

pub returns-then-not-is_kind : goal.returns-then-not-is_kind
returns-then-not-is_kind c = heading-other c.loop-i.invariant (not_by (kind (record_at c.args.job.now c.loop-i.i)) axis_kind c.if-not-is_kind.ensures) ∙ ap (axis_run _) c.records_in-records.ensures

pub loop-i-preserved : goal.loop-i-preserved
loop-i-preserved c = heading-more c.loop-i.invariant (omega arith) (is_by (kind (record_at c.args.job.now c.loop-i.i)) axis_kind c.if-not-is_kind.ensures)

pub returns : goal.returns
returns c = let e : c.records_in-records.result ≡ c.loop-i.i = omega (arith, c.loop-i.invariant.within) in e ∙ heading-all c.loop-i.invariant (λ h. omega arith) ∙ ap (axis_run _) c.records_in-records.ensures
