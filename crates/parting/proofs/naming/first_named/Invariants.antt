use Rattle.parting.proofs.NamedLaws.{Naming}
use Rattle.parting.proofs.naming.first_named.Given as goal

abbrev pub invariant-loop-i : goal.invariant-loop-i
invariant-loop-i l = Naming l.job l.records l.work l.first l.q l.i
