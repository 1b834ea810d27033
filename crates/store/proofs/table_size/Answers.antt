use Rattle.laws.proofs.Products.{product}
use Rattle.store.proofs.SizeLaws.{size_none, size-some}
use native.Mathlib.Omega.{arith}
use Rattle.store.proofs.table_size.Goals as goal

pub returns-then-items-eq0 : goal.returns-then-items-eq0
returns-then-items-eq0 c = record { value = size_none _ _ _ c.if-items-eq0.true; upper_bound = omega arith }

pub returns : goal.returns
returns c = record { value = size-some _ _ _ c.if-items-eq0.false; upper_bound = omega (arith, product 65535 262144 {a = c.args.items} {b = c.args.row} (omega arith) (omega arith)) }
