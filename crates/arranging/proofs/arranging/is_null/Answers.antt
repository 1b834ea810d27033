use Rattle.arranging.proofs.StageLaws.{null-shared, null-none, null-some}
use Rattle.arranging.proofs.arranging.is_null.Goals as goal

pub returns-then-s-eq0 : goal.returns-then-s-eq0
returns-then-s-eq0 c = null-shared c.args.s c.if-s-eq0.true

pub returns-then-s-eq0-2 : goal.returns-then-s-eq0-2
returns-then-s-eq0-2 c = null-none c.args.s c.if-s-eq0.false c.if-s-eq0-2.true

pub returns : goal.returns
returns c = null-some c.args.s c.if-s-eq0-2.false
