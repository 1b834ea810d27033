use Rattle.shapes.proofs.LentLaws.{Joining}
use Rattle.shapes.proofs.shape.RowShape.join.Given as goal

abbrev pub invariant-loop-i : goal.invariant-loop-i
invariant-loop-i l = Joining l.a l.b l.n l.initial.work l.work l.i
