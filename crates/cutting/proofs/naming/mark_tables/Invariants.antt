use Rattle.cutting.specs.LentCut.{TablesMarked}
use Rattle.cutting.proofs.naming.mark_tables.Given as goal

abbrev pub invariant-loop-g : goal.invariant-loop-g
invariant-loop-g l = TablesMarked l.store l.n l.g l.initial.work l.work
