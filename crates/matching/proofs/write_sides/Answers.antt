use Rattle.matching.proofs.SideLaws.{siding-fits, siding-room, siding-more}
use native.Mathlib.Omega.{arith}
use Rattle.matching.proofs.write_sides.Goals as goal

pub write_side-requires : goal.write_side-requires
write_side-requires c =
    let l = c.loop-x in
    let p = c.requires in
    record { sides_fit = siding-fits _ _ _ _ p _ _ _ l.invariant; x_bound = (omega arith, omega (arith, siding-room _ _ _ _ p _ _ _ l.invariant (omega arith), p.room, l.invariant.only.long)) }

pub loop-x-preserved : goal.loop-x-preserved
loop-x-preserved c = let l = c.loop-x in let p = c.requires in siding-more _ _ _ _ p _ _ _ l.invariant (omega arith) _ c.write_side.ensures
