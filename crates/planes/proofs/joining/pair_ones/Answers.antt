use Rattle.planes.proofs.JoinLaws.{pair-done}
use native.Mathlib.Omega.{arith}
use Rattle.planes.proofs.joining.pair_ones.Goals as goal

pub returns : goal.returns
returns c = let a = c.args in pair-done a.work.now a.a a.b a.i (λ k. omega (arith, c.type_inv.work k))
