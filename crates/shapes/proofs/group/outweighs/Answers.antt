use Rattle.laws.proofs.Products.{product}
use native.Mathlib.Omega.{arith}
use Rattle.shapes.proofs.group.outweighs.Goals as goal

pub overflow_mul-result : goal.overflow_mul-result
overflow_mul-result c = omega (arith, product 262144 4294967295 {a = c.args.by} {b = c.args.sets} (omega arith) (omega arith))

pub returns : goal.returns
returns c = rw c.overhead.ensures
