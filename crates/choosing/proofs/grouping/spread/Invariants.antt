use Rattle.choosing.proofs.GroupLaws.{Grouping}
use Rattle.choosing.proofs.grouping.spread.Given as goal

abbrev pub invariant-loop-j : goal.invariant-loop-j
invariant-loop-j l = Grouping l.n l.k l.initial.work l.work l.j l.g
