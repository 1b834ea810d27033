use Rattle.store.proofs.RegionLaws.{NamingIn}
use Rattle.store.proofs.mark_shape.Given as goal

abbrev pub invariant-loop-r : goal.invariant-loop-r
invariant-loop-r l = NamingIn l.shape l.regions l.marks l.initial.work l.work l.r
