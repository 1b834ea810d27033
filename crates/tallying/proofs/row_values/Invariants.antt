use Prim.Native.Nat.{◌-◌}
use Rattle.tallying.proofs.RowLaws.{Counting}
use Rattle.tallying.proofs.row_values.Given as goal

abbrev pub invariant-loop-j : goal.invariant-loop-j
invariant-loop-j l = Counting l.s l.at l.row l.word l.n l.count l.j

abbrev pub decreases-loop-j : goal.decreases-loop-j
decreases-loop-j l = l.n - l.j
