use native.Mathlib.Omega.{arith}
use Rattle.cutting.proofs.WholeLaws.{header-put}
use Rattle.cutting.proofs.whole.write_header.Goals as goal

pub returns : goal.returns
returns c = header-put _ _ _ _ _ (omega arith) c.put.ensures c.put-2.ensures c.put-3.ensures
