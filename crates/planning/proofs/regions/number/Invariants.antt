use Rattle.store.proofs.RegionLaws.{NumberingIn}
use Rattle.planning.proofs.regions.number.Given as goal

abbrev pub invariant-loop-r : goal.invariant-loop-r
invariant-loop-r l = NumberingIn l.marks l.numbers l.regions l.initial.work l.work l.n l.r
