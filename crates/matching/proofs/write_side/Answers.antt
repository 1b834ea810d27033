use Rattle.matching.proofs.SideLaws.{used-is, listed-is}
use native.Mathlib.Omega.{arith}
use Rattle.matching.proofs.write_side.Goals as goal

pub returns-then-x-t : goal.returns-then-x-t
returns-then-x-t c = let p = c.requires in listed-is p.sides_fit _ p.x_bound.0 c.if-x-t.true _ _ c.write_listed.ensures

pub returns-else-x-t : goal.returns-else-x-t
returns-else-x-t c = let p = c.requires in used-is p.sides_fit _ p.x_bound.0 (omega arith) _ _ c.wide-q.ensures c.region_long.ensures _ _ c.write_used.ensures
