use Rattle.tallying.proofs.TableLaws.{Summing}
use Rattle.tallying.proofs.table_values.Given as goal

abbrev pub invariant-loop-i : goal.invariant-loop-i
invariant-loop-i l = Summing l.s l.at l.items l.long l.row l.count l.i
