use Prim.Native.Nat.{◌-◌}
use Rattle.cells.proofs.NextLaws.{Nexting}
use Rattle.cells.proofs.next.next_cell.Given as goal

abbrev pub invariant-loop-i : goal.invariant-loop-i
invariant-loop-i l = Nexting l.s l.row l.word l.n l.j l.i

abbrev pub decreases-loop-i : goal.decreases-loop-i
decreases-loop-i l = l.n - l.i
