use Rattle.planes.proofs.JoinLaws.{counted-pair}
use native.Mathlib.Omega.{arith}
use Rattle.planes.proofs.joining.count_pairs.Goals as goal

pub loop-i-preserved : goal.loop-i-preserved
loop-i-preserved c = counted-pair _ _ _ _ _ _ _ _ c.pair_ones-one.result c.pair_ones-two.result c.pair_ones-four.result c.loop-i.invariant c.pair_ones-one.ensures c.pair_ones-two.ensures c.pair_ones-four.ensures (omega arith)
