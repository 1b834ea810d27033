use mathlib.Core.Path.{◌≡◌}
use Prim.Native.Nat.{◌-◌}
use Rattle.said.specs.Records.{first_not_zero}
use Rattle.records.specs.Lent.{between}
use Rattle.records.proofs.forms.not_zero.Given as goal

abbrev pub invariant-loop-b : goal.invariant-loop-b
invariant-loop-b l = first_not_zero l.rec (between l.b l.to) ≡ first_not_zero l.rec (between l.from l.to)

abbrev pub decreases-loop-b : goal.decreases-loop-b
decreases-loop-b l = l.to - l.b
