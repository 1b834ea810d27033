use Rattle.shapes.proofs.LentLaws.{Measuring}
use Rattle.shapes.proofs.shape.RowShape.joined.Given as goal

abbrev pub invariant-loop-i : goal.invariant-loop-i
invariant-loop-i l = Measuring l.a l.b l.cost l.columns l.i
