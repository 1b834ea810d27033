use Prim.Native.Nat.{◌-◌}
use Rattle.ids.specs.LentFirsts.{FirstsFit, Firsting}
use Rattle.ids.proofs.firsts.Given as goal

abbrev pub invariant-loop-i : goal.invariant-loop-i
invariant-loop-i l = (f : FirstsFit l.initial.work l.index l.at l.n l.first) → Firsting l.index l.at l.n l.first f.all l.initial.work l.work l.i

abbrev pub decreases-loop-i : goal.decreases-loop-i
decreases-loop-i l = l.n - l.i
