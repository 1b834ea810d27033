use Rattle.tallying.proofs.TallyLaws.{Tallying}
use Rattle.tallying.proofs.tally.Given as goal

abbrev pub invariant-loop-o : goal.invariant-loop-o
invariant-loop-o l = Tallying l.s l.n l.t.records l.t.sets l.o
