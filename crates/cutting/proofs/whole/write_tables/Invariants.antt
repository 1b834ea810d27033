use Rattle.cutting.proofs.WholeLaws.{TablesAt}
use Rattle.cutting.proofs.whole.write_tables.Given as goal

abbrev pub invariant-loop-g : goal.invariant-loop-g
invariant-loop-g l = TablesAt l.store l.n l.work l.t l.at l.initial.out l.out l.p l.g
