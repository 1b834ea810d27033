use Rattle.rows.proofs.InWork.{CollectingIn}
use Rattle.rows.proofs.column.collect.Given as goal

abbrev pub invariant-loop-i : goal.invariant-loop-i
invariant-loop-i l = CollectingIn l.width l.shape l.regions l.from l.initial.work l.work l.n l.i
