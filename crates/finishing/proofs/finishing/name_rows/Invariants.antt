use Rattle.finishing.proofs.LoopLaws.{Naming}
use Rattle.finishing.proofs.finishing.name_rows.Given as goal

abbrev pub invariant-loop-q : goal.invariant-loop-q
invariant-loop-q l = Naming l.rows l.n l.ids l.q l.initial.work l.work
