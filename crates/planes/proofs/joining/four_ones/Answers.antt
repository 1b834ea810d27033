use Rattle.planes.proofs.JoinLaws.{four-done}
use native.Mathlib.Omega.{arith}
use Rattle.planes.proofs.joining.four_ones.Goals as goal

pub overflow_add-result : goal.overflow_add-result
overflow_add-result c = let a = c.args in omega (arith, (four-done a.work.now a.a a.b a.i (λ j. omega (arith, c.type_inv.work j))).most)

pub overflow_add-result-2 : goal.overflow_add-result-2
overflow_add-result-2 c = let a = c.args in omega (arith, (four-done a.work.now a.a a.b a.i (λ j. omega (arith, c.type_inv.work j))).most)

pub overflow_add-result-3 : goal.overflow_add-result-3
overflow_add-result-3 c = let a = c.args in omega (arith, (four-done a.work.now a.a a.b a.i (λ j. omega (arith, c.type_inv.work j))).most)

pub returns : goal.returns
returns c = let a = c.args in four-done a.work.now a.a a.b a.i (λ j. omega (arith, c.type_inv.work j))
