use Rattle.cutting.proofs.TableLaws.{RowsAt}
use Rattle.cutting.proofs.table.write_rows.Given as goal

abbrev pub invariant-loop-i : goal.invariant-loop-i
invariant-loop-i l = RowsAt l.store l.first l.long l.work l.from l.count l.at l.initial.out l.out l.p l.i
