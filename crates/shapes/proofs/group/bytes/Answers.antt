use Rattle.laws.proofs.Products.{product}
use native.Mathlib.Omega.{arith}
use Rattle.shapes.proofs.group.bytes.Goals as goal

pub overflow_mul-result : goal.overflow_mul-result
overflow_mul-result c = omega (arith, product 262144 8589934592 {a = c.args.row} {b = c.args.sets} (omega arith) (omega arith))

pub overflow_add-result : goal.overflow_add-result
overflow_add-result c = omega (arith, product 262144 8589934592 {a = c.args.row} {b = c.args.sets} (omega arith) (omega arith))

pub returns : goal.returns
returns c = record { value = omega arith; upper_bound = omega (arith, product 262144 8589934592 {a = c.args.row} {b = c.args.sets} (omega arith) (omega arith)) }
