use Rattle.rows.proofs.RowLaws.{Laying}
use Rattle.subtables.proofs.row.lay.Given as goal

abbrev pub invariant-loop-i : goal.invariant-loop-i
invariant-loop-i l = Laying l.columns.word l.columns.regions.now l.work l.start l.count l.initial.row l.row l.i
