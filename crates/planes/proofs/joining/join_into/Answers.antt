use Rattle.planes.proofs.JoinLaws.{oring-done}
use native.Mathlib.Omega.{arith}
use Rattle.planes.proofs.joining.join_into.Goals as goal

pub returns : goal.returns
returns c = oring-done _ _ _ _ _ _ c.loop-i.invariant (omega arith)
