use Rattle.ids.proofs.ScreenLaws.{Screening}
use Rattle.ids.proofs.screening.sift.Given as goal

abbrev pub invariant-loop-x : goal.invariant-loop-x
invariant-loop-x l = Screening l.index l.n l.at l.first l.seen l.initial.work l.work l.x l.m
