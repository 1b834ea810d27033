use Rattle.cutting.proofs.TableLaws.{ColumnsAt}
use Rattle.cutting.proofs.table.write_columns.Given as goal

abbrev pub invariant-loop-j : goal.invariant-loop-j
invariant-loop-j l = ColumnsAt l.store l.from l.n l.work l.marks l.at l.initial.out l.out l.p l.j
