use Rattle.opening.proofs.StartLaws.{Starting}
use Rattle.opening.proofs.opening.place_starts.Given as goal

abbrev pub invariant-loop-i : goal.invariant-loop-i
invariant-loop-i l = Starting l.at l.n l.axes l.initial.work l.work l.i
