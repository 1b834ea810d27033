use Rattle.rows.proofs.InWork.{in-room, in-same, in-other, in-done}
use native.Mathlib.Omega.{arith}
use Rattle.rows.proofs.column.collect.Goals as goal
use Rattle.rows.proofs.column.collect.Goals.{then-work-shape, else-work-shape}

pub bounds-work-n : goal.bounds-work-n
bounds-work-n c = in-room _ _ _ _ _ c.requires.regions_bound_2 c.requires.work_in_bounds _ _ _ c.loop-i.invariant (omega arith) c.if-work-shape.true

pub loop-i-preserved : goal.loop-i-preserved
loop-i-preserved c =
    let q = c.requires in
    elim c.if-work-shape.branch [
      | then-work-shape w ↦ rw (w.n-is, w.work-is) (in-same _ _ _ _ _ q.regions_bound_2 q.work_in_bounds _ _ _ c.loop-i.invariant (omega arith) w.if-work-shape.true)
      | else-work-shape w ↦ rw (w.n-is, w.work-is) (in-other _ _ _ _ _ q.regions_bound_2 q.work_in_bounds _ _ _ c.loop-i.invariant (omega arith) w.if-work-shape.false)
    ]

pub returns : goal.returns
returns c = in-done _ _ _ _ _ c.requires.regions_bound_2 c.requires.work_in_bounds _ _ _ c.loop-i.invariant (omega arith)
