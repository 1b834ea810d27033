use native.Mathlib.Omega.{arith}
use Rattle.said.specs.Records.{record_at, kind, end_kind}
use Rattle.records.proofs.KindLaws.{is_by, not_by}
use Rattle.showing.proofs.EndLaws.{counted_none, counted-end, counted-other, end-here, end_none}
use Rattle.showing.proofs.ends.end_at.Goals as goal
use Rattle.showing.proofs.ends.end_at.Goals.{then-is_kind+else-before-j, else-is_kind}

pub loop-i-init : goal.loop-i-init
loop-i-init c = counted_none _ _ _

pub returns-then-before-j : goal.returns-then-before-j
returns-then-before-j c = end-here _ c.loop-i.invariant c.loop-i-test.true c.records_in-n.ensures (is_by (kind (record_at c.args.job.now c.loop-i.i)) end_kind c.if-is_kind.ensures) c.if-before-j.true

pub loop-i-preserved : goal.loop-i-preserved
loop-i-preserved c = elim c.if-is_kind.branch [
  | then-is_kind+else-before-j w ↦ counted-end _ c.loop-i.invariant c.loop-i-test.true (is_by (kind (record_at c.args.job.now c.loop-i.i)) end_kind w.if-is_kind.ensures) w.if-before-j.false _ w.before-is
  | else-is_kind w ↦ counted-other _ c.loop-i.invariant c.loop-i-test.true (not_by (kind (record_at c.args.job.now c.loop-i.i)) end_kind w.if-is_kind.ensures) _ w.before-is
]

pub returns : goal.returns
returns c = end_none _ c.loop-i.i c.loop-i.invariant (omega arith) c.records_in-n.ensures
