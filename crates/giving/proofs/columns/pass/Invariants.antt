use Prim.Native.Nat.{◌-◌}
use Rattle.giving.proofs.PassLaws.{Passing}
use Rattle.giving.proofs.columns.pass.Given as goal

abbrev pub invariant-loop-j : goal.invariant-loop-j
invariant-loop-j l = Passing l.store l.at l.row l.word l.n l.t l.initial.work l.work l.j

abbrev pub decreases-loop-j : goal.decreases-loop-j
decreases-loop-j l = l.n - l.j
