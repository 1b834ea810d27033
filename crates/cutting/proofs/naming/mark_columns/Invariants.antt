use Rattle.cutting.specs.LentCut.{ColumnsMarked}
use Rattle.cutting.proofs.naming.mark_columns.Given as goal

abbrev pub invariant-loop-j : goal.invariant-loop-j
invariant-loop-j l = ColumnsMarked l.store l.from l.j l.marks l.initial.work l.work
