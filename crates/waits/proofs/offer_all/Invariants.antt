-- Numbers below c are weighed.
use Rattle.waits.proofs.WaitLaws.{Offering}
use Rattle.waits.proofs.offer_all.Given as goal

abbrev pub invariant-loop-c : goal.invariant-loop-c
invariant-loop-c l = Offering l.t l.k l.at.waiting l.at.weighed l.work l.initial.pairs l.pairs l.now.waiting l.now.weighed l.c
