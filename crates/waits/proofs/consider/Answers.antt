use Rattle.waits.proofs.WaitLaws.{considered}
use Rattle.waits.proofs.consider.Goals as goal

pub returns : goal.returns
returns c = considered _ _ _ _ _ c.if-x-eq0.false c.weigh-gain.ensures
