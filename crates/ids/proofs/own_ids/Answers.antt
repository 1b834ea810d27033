use Rattle.std.proofs.Common.{arith}
use Rattle.ids.proofs.FirstSteps.{count-done}
use Rattle.ids.proofs.own_ids.Goals as goal

pub returns : goal.returns
returns c = count-done _ _ _ (omega arith) _ _ c.loop-i.invariant (omega arith)
