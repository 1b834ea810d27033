use Rattle.choosing.proofs.FindLaws.{PlacesSo}
use Rattle.choosing.proofs.finding.write_places.Given as goal

abbrev pub invariant-loop-i : goal.invariant-loop-i
invariant-loop-i l = PlacesSo l.k l.to l.work l.rows l.initial.places l.places l.i
