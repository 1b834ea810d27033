use Rattle.giving.proofs.WordLaws.{Judging}
use Rattle.giving.proofs.failing.first_failing.Given as goal

abbrev pub invariant-loop-k : goal.invariant-loop-k
invariant-loop-k l = Judging l.store l.words l.sets l.t l.initial.work l.work l.k
