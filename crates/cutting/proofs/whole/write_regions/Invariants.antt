use Rattle.cutting.proofs.WholeLaws.{RegionsAt}
use Rattle.cutting.proofs.whole.write_regions.Given as goal

abbrev pub invariant-loop-r : goal.invariant-loop-r
invariant-loop-r l = RegionsAt l.store l.from l.long l.work l.marks l.regions l.at l.initial.out l.out l.p l.r
