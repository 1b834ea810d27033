use Rattle.reasons.proofs.HomeLaws.{Sought}
use Rattle.reasons.proofs.homes.home_of.Given as goal

abbrev pub invariant-loop-g : goal.invariant-loop-g
invariant-loop-g l = Sought l.p l.count l.work l.x l.g
