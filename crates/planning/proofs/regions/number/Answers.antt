use Rattle.store.proofs.RegionLaws.{numbered-start, numbered-most, numbered-in, numbered-out}
use native.Mathlib.Omega.{arith}
use Rattle.planning.proofs.regions.number.Goals as goal
use Rattle.planning.proofs.regions.number.Goals.{then-work-marks-ne0, else-work-marks-ne0}

pub loop-r-init : goal.loop-r-init
loop-r-init c = numbered-start _ _ _ _ c.requires.regions_bound_2 c.requires.regions_in_bounds

pub overflow_cast-work : goal.overflow_cast-work
overflow_cast-work c = omega (arith, numbered-most _ _ _ _ c.requires.regions_bound_2 c.requires.regions_in_bounds _ _ _ c.loop-r.invariant, c.requires.regions_bound)

pub overflow_add-n : goal.overflow_add-n
overflow_add-n c = omega (arith, numbered-most _ _ _ _ c.requires.regions_bound_2 c.requires.regions_in_bounds _ _ _ c.loop-r.invariant, c.requires.regions_bound)

pub loop-r-preserved : goal.loop-r-preserved
loop-r-preserved c =
    let q = c.requires in
    elim c.if-work-marks-ne0.branch [
      | then-work-marks-ne0 w ↦ rw w.n-is (numbered-in _ _ _ _ q.regions_bound_2 q.regions_in_bounds _ _ _ c.loop-r.invariant (omega arith) w.if-work-marks-ne0.true)
      | else-work-marks-ne0 w ↦ rw w.n-is (numbered-out _ _ _ _ q.regions_bound_2 q.regions_in_bounds _ _ _ c.loop-r.invariant (omega arith) w.if-work-marks-ne0.false)
    ]
