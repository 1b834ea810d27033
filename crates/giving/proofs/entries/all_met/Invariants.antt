use Rattle.giving.proofs.LayLaws.{Meeting}
use Rattle.giving.proofs.entries.all_met.Given as goal

abbrev pub invariant-loop-i : goal.invariant-loop-i
invariant-loop-i l = Meeting l.work l.start l.count l.t l.i
