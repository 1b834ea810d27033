use native.Mathlib.Omega.{arith}
use Rattle.cutting.proofs.PieceLaws.{copy_put}
use Rattle.cutting.proofs.table.copy.Goals as goal

pub returns : goal.returns
returns c = rw c.copy_slice.ensures (copy_put _ _ _ _ _ _ _ (omega arith) (omega arith) (omega arith))
