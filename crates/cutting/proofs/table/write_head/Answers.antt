use native.Mathlib.Omega.{arith}
use Rattle.rows.proofs.PutLaws.{head-put}
use Rattle.cutting.proofs.table.write_head.Goals as goal

pub returns : goal.returns
returns c = head-put _ _ _ _ _ _ _ _ (omega arith) c.put.ensures c.put-2.ensures c.put-3.ensures
