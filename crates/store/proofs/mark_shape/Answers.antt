use Rattle.store.proofs.RegionLaws.{named_some, named_none, named-done}
use native.Mathlib.Omega.{arith}
use Rattle.store.proofs.mark_shape.Goals as goal
use Rattle.store.proofs.mark_shape.Goals.{then-work-shape-ne0, else-work-shape-ne0}

pub loop-r-preserved : goal.loop-r-preserved
loop-r-preserved c =
    let q = c.requires in
    elim c.if-work-shape-ne0.branch [
      | then-work-shape-ne0 w ↦ rw w.work-is (named_some _ _ _ _ q.regions_bound q.regions_in_bounds _ _ c.loop-r.invariant (omega arith) w.if-work-shape-ne0.true)
      | else-work-shape-ne0 w ↦ rw w.work-is (named_none _ _ _ _ q.regions_bound q.regions_in_bounds _ _ c.loop-r.invariant (omega arith) w.if-work-shape-ne0.false)
    ]

pub returns : goal.returns
returns c = let q = c.requires in named-done _ _ _ _ q.regions_bound q.regions_in_bounds _ _ c.loop-r.invariant (omega arith)
