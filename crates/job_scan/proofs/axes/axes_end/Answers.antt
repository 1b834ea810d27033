use mathlib.Core.Path.{sym}
use Rattle.said.specs.Records.{record_at, kind, axis_kind}
use Rattle.records.proofs.KindLaws.{is_by, not_by}
use Rattle.job_scan.proofs.WalkLaws.{reading-start, reading-more, read-bad, read_whole, read-open, read_all}
use native.Mathlib.Omega.{arith}
use Rattle.job_scan.proofs.axes.axes_end.Goals as goal

pub loop-i-init : goal.loop-i-init
loop-i-init c = reading-start _ _ _

pub returns-then-records-axes-ne0 : goal.returns-then-records-axes-ne0
returns-then-records-axes-ne0 c = read-open c.loop-i.invariant (omega arith) c.if-records-axes-ne0.true

pub returns : goal.returns
returns c = read_all c.loop-i.invariant (omega arith) c.if-records-axes-ne0.false

pub returns-in-Err : goal.returns-in-Err
returns-in-Err c = read-bad c.loop-i.invariant c.in-Err.refusal (omega arith) c.in-Err.ensures

pub returns-then-not-is_kind : goal.returns-then-not-is_kind
returns-then-not-is_kind c = read_whole c.loop-i.invariant (omega arith) (sym c.in_default.ensures) (not_by (kind (record_at c.args.job.now c.loop-i.i)) axis_kind c.if-not-is_kind.ensures)

pub loop-i-preserved : goal.loop-i-preserved
loop-i-preserved c = reading-more c.loop-i.invariant (omega arith) (sym c.in_default.ensures) (is_by (kind (record_at c.args.job.now c.loop-i.i)) axis_kind c.if-not-is_kind.ensures)
