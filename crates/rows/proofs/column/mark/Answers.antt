use Rattle.rows.proofs.InWork.{into-start, into-room, into_more, into-done}
use native.Mathlib.Omega.{arith}
use Rattle.rows.proofs.column.mark.Goals as goal

pub loop-j-init : goal.loop-j-init
loop-j-init c = let q = c.requires in into-start _ _ _ _ _ q.n_bound_2 q.regions_in_bounds q.work_value q.work_value_2

pub bounds-work-places : goal.bounds-work-places
bounds-work-places c = omega (arith, c.loop-j.invariant.only.long, into-room _ _ _ _ _ c.requires.n_bound_2 c.requires.regions_in_bounds c.requires.work_value _ _ c.loop-j.invariant (omega arith))

pub loop-j-preserved : goal.loop-j-preserved
loop-j-preserved c = into_more _ _ _ _ _ c.requires.n_bound_2 c.requires.regions_in_bounds c.requires.work_value _ _ c.loop-j.invariant (omega arith)

pub returns : goal.returns
returns c = into-done _ _ _ _ _ c.requires.n_bound_2 c.requires.regions_in_bounds c.requires.work_value _ _ c.loop-j.invariant (omega arith)
