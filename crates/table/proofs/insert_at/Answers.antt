use Rattle.std.proofs.Common.{arith}
use Rattle.table.proofs.TableSteps.{insert-done}
use Rattle.table.proofs.insert_at.Goals as goal

pub returns : goal.returns
returns c = insert-done (omega (arith, c.loop-k.invariant.least)) c.requires c.loop-k.auto.words c.loop-k.invariant.moved
