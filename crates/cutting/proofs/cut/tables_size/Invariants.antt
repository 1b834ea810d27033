use Rattle.cutting.proofs.CutLaws.{SizeSo}
use Rattle.cutting.proofs.cut.tables_size.Given as goal

abbrev pub invariant-loop-g : goal.invariant-loop-g
invariant-loop-g l = SizeSo l.store l.n l.work l.t l.size l.g
