use Rattle.reasons.proofs.RowLaws.{Walked}
use Rattle.reasons.proofs.id_rows.place_among.Given as goal

abbrev pub invariant-loop-q : goal.invariant-loop-q
invariant-loop-q l = Walked l.ids l.rows l.n l.work l.x l.q
