use Rattle.cutting.proofs.WholeLaws.{SpotsAt}
use Rattle.cutting.proofs.whole.write_spots.Given as goal

abbrev pub invariant-loop-g : goal.invariant-loop-g
invariant-loop-g l = SpotsAt l.store l.n l.work l.t l.first l.at l.initial.out l.out l.p l.next l.g
