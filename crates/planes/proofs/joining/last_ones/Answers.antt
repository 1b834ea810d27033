use Rattle.planes.proofs.JoinLaws.{last_one}
use native.Mathlib.Omega.{arith}
use Rattle.planes.proofs.joining.last_ones.Goals as goal

pub returns-then-i-words : goal.returns-then-i-words
returns-then-i-words c = let a = c.args in last_one a.work.now a.a a.b a.i a.words (λ k. omega (arith, c.type_inv.work k)) (omega arith) (omega arith)
