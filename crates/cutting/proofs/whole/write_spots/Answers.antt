use native.Mathlib.Omega.{arith}
use Rattle.cutting.proofs.CutLaws.{size_of}
use Rattle.cutting.proofs.WholeLaws.{spots-start, spots-more, spots-low, spots-done}
use Rattle.cutting.proofs.whole.write_spots.Goals as goal

pub loop-g-init : goal.loop-g-init
loop-g-init c = spots-start _ _ _ _ _ _ _

pub overflow_cast-next : goal.overflow_cast-next
overflow_cast-next c = omega (arith, spots-low _ _ _ _ _ _ _ _ _ _ _ c.loop-g.invariant (omega arith) c.requires.t_in_bounds.1)

pub overflow_add-next : goal.overflow_add-next
overflow_add-next c = omega (arith, spots-low _ _ _ _ _ _ _ _ _ _ _ c.loop-g.invariant (omega arith) c.requires.t_in_bounds.1, c.size_of-next.ensures.1)

pub loop-g-preserved : goal.loop-g-preserved
loop-g-preserved c = spots-more _ _ _ _ _ _ _ (omega arith) _ _ _ _ _ _ c.loop-g.invariant (omega arith) (size_of _ _ _ _ _ _ _ _ _ _ c.cut_of-c.ensures c.size_of-next.ensures.0) c.put.ensures

pub returns : goal.returns
returns c = spots-done _ _ _ _ _ _ _ _ _ _ _ c.loop-g.invariant (omega arith)
