use Rattle.cells.proofs.AheadLaws.{Looking}
use Rattle.cells.proofs.ahead.look_ahead.Given as goal

abbrev pub invariant-loop-p : goal.invariant-loop-p
invariant-loop-p l = Looking l.s l.at l.initial.work l.work l.zeros l.p
