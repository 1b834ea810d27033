-- The heirs of the numbers from c on are known.
use Rattle.merging.proofs.FinishLaws.{Finishing}
use Rattle.merging.proofs.optimizing.resolve_all.Given as goal

abbrev pub invariant-loop-c : goal.invariant-loop-c
invariant-loop-c l = Finishing l.t l.k l.initial.work l.work l.c
