use Rattle.store.proofs.SpotLaws.{spot-none, spot-some}
use Rattle.store.proofs.offset.Goals as goal

pub returns-then-size-eq0 : goal.returns-then-size-eq0
returns-then-size-eq0 c = spot-none _ _ c.if-size-eq0.true

pub returns : goal.returns
returns c = spot-some _ _ c.if-size-eq0.false
