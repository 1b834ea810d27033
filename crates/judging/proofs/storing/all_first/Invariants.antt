use Rattle.judging.proofs.StoringLaws.{Firsting}
use Rattle.judging.proofs.storing.all_first.Given as goal

abbrev pub invariant-loop-q : goal.invariant-loop-q
invariant-loop-q l = Firsting l.work l.first l.n l.q
