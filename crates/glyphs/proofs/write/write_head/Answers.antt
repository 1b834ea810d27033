use Rattle.glyphs.proofs.WriteLaws.{size-zero, size-one, put-zero, put_one}
use native.Mathlib.Omega.{arith}
use Rattle.glyphs.proofs.write.write_head.Goals as goal

pub put_head-requires : goal.put_head-requires
put_head-requires c = record { k_bound = omega arith; k_in_bounds = omega (arith, size-zero 0 c.args.count (omega arith)) }

pub returns-then-count-lt65536 : goal.returns-then-count-lt65536
returns-then-count-lt65536 c = put-zero _ c.args.count _ _ (omega arith) c.put_head.ensures

pub put_head-requires-2 : goal.put_head-requires-2
put_head-requires-2 c = record { k_bound = omega arith; k_in_bounds = omega (arith, size-one 0 c.args.count (omega arith)) }

pub returns : goal.returns
returns c = put_one _ c.args.count _ _ (omega arith) c.put_head-2.ensures
