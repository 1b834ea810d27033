use Rattle.planes.proofs.FillLaws.{Filling}
use Rattle.planes.proofs.filling.put_all.Given as goal

abbrev pub invariant-loop-r : goal.invariant-loop-r
invariant-loop-r l = Filling l.x l.m l.a l.words l.initial.work l.work l.r
