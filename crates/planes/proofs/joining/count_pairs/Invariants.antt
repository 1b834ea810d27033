use Prim.Native.Nat.{◌-◌}
use Rattle.planes.specs.Lent.{CountedTo}
use Rattle.planes.proofs.joining.count_pairs.Given as goal

abbrev pub invariant-loop-i : goal.invariant-loop-i
invariant-loop-i l = CountedTo l.work l.a l.b l.words l.one l.two l.four l.i

abbrev pub decreases-loop-i : goal.decreases-loop-i
decreases-loop-i l = l.words - l.i
