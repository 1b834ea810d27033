use native.Mathlib.Omega.{arith}
use Rattle.cutting.proofs.CutLaws.{size-start, size-more, size_of}
use Rattle.cutting.proofs.cut.tables_size.Goals as goal

pub loop-g-init : goal.loop-g-init
loop-g-init c = size-start _ _ _ _

pub loop-g-preserved : goal.loop-g-preserved
loop-g-preserved c = size-more _ _ _ _ _ _ _ c.loop-g.invariant (omega arith) (size_of _ _ _ _ _ _ _ _ _ _ c.cut_of-c.ensures c.size_of-size.ensures.0) c.size_of-size.ensures.1
