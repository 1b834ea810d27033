use Rattle.store.proofs.RegionLaws.{MarkingIn}
use Rattle.planning.proofs.regions.mark_groups.Given as goal

abbrev pub invariant-loop-g : goal.invariant-loop-g
invariant-loop-g l = MarkingIn l.t.regions l.t.groups l.marks l.initial.work l.work l.g
