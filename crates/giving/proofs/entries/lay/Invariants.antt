use Rattle.giving.proofs.LayLaws.{Laying}
use Rattle.giving.proofs.entries.lay.Given as goal

abbrev pub invariant-loop-i : goal.invariant-loop-i
invariant-loop-i l = Laying l.start l.count l.t l.initial.work l.work l.i
