use Rattle.shapes.proofs.LentLaws.{join_more, join-done}
use native.Mathlib.Omega.{arith}
use Rattle.shapes.proofs.shape.RowShape.join.Goals as goal

pub loop-i-preserved : goal.loop-i-preserved
loop-i-preserved c = rw c.max.ensures (join_more _ _ _ _ (omega arith) (omega arith) c.requires.apart _ _ c.loop-i.invariant (omega arith))

pub returns : goal.returns
returns c = join-done _ _ _ _ (omega arith) (omega arith) c.requires.apart _ _ c.loop-i.invariant (omega arith)
