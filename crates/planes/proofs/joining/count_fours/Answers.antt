use Rattle.planes.proofs.JoinLaws.{counted_start, counted-four}
use native.Mathlib.Omega.{arith}
use Rattle.planes.proofs.joining.count_fours.Goals as goal

pub loop-i-init : goal.loop-i-init
loop-i-init c = counted_start _ _ _ _

pub loop-i-preserved : goal.loop-i-preserved
loop-i-preserved c = counted-four _ _ _ _ _ _ _ _ c.four_ones-one.result c.four_ones-two.result c.four_ones-four.result c.loop-i.invariant c.four_ones-one.ensures c.four_ones-two.ensures c.four_ones-four.ensures (omega arith)
