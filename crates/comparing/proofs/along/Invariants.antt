use mathlib.Core.Path.{◌≡◌}
use mathlib.Core.List.{List}
use Prim.Native.Nat.{ℕ, ◌+◌, ◌*◌, ◌≤◌}
use lib.ListN.{length}
use Rattle.sets.specs.Order.{parting}
use Rattle.sets.specs.Lent.{entries}
use Rattle.comparing.proofs.along.Given as goal

-- what is left of the walk decides the whole
pub record Walk (w : List ℕ) (a0 m0 b0 n0 a m b n : ℕ) : Type 0 where
  pub left : a + 2 * m ≤ length w
  pub right : b + 2 * n ≤ length w
  pub same : parting (entries a0 m0 w) (entries b0 n0 w) ≡ parting (entries a m w) (entries b n w)

abbrev pub invariant-loop-m : goal.invariant-loop-m
invariant-loop-m l = Walk l.work l.fn.a l.fn.m l.fn.b l.fn.n l.a l.m l.b l.n

abbrev pub decreases-loop-m : goal.decreases-loop-m
decreases-loop-m l = l.m + l.n
