use Rattle.rows.proofs.InWork.{MarkingIn}
use Rattle.rows.proofs.column.mark.Given as goal

abbrev pub invariant-loop-j : goal.invariant-loop-j
invariant-loop-j l = MarkingIn l.cols l.n l.places l.regions l.initial.work l.work l.j
