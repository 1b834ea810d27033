use Rattle.choosing.proofs.OnceLaws.{Moving}
use Rattle.choosing.proofs.once.distinct.Given as goal

abbrev pub invariant-loop-i : goal.invariant-loop-i
invariant-loop-i l = Moving l.n l.initial.work l.work l.k l.i
