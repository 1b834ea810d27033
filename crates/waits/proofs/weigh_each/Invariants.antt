-- Numbers below k are weighed with each other.
use Rattle.waits.proofs.WaitLaws.{Opens}
use Rattle.waits.proofs.weigh_each.Given as goal

abbrev pub invariant-loop-k : goal.invariant-loop-k
invariant-loop-k l = Opens l.t l.work l.initial.pairs l.pairs l.now.waiting l.now.weighed l.k
