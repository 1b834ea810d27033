use Prim.Native.Nat.{◌-◌}
use Rattle.table.proofs.TableSteps.{Searching}
use Rattle.table.proofs.search.Given as goal

abbrev pub invariant-loop-lo : goal.invariant-loop-lo
invariant-loop-lo l = Searching l.t l.n l.s l.work l.lo l.hi

abbrev pub decreases-loop-lo : goal.decreases-loop-lo
decreases-loop-lo l = l.hi - l.lo
