use Rattle.grouping.proofs.GroupSteps.{Grouping}
use Rattle.grouping.proofs.group.Given as goal

abbrev pub invariant-loop-k : goal.invariant-loop-k
invariant-loop-k l = Grouping l.t l.index l.n l.first l.kinds l.initial.work l.work l.groups l.k
