use Rattle.cutting.proofs.NameLaws.{NumbersSo}
use Rattle.cutting.proofs.naming.number.Given as goal

abbrev pub invariant-loop-mark : goal.invariant-loop-mark
invariant-loop-mark l = NumbersSo l.marks l.regions l.fn.work l.mark-items l.k l.mark-index
