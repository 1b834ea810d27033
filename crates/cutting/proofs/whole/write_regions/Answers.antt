use lib.ListN.{length}
use native.Mathlib.Omega.{arith}
use Rattle.cutting.proofs.WholeLaws.{regions-inside, regions-room, regions-in, regions-out, regions-done}
use Rattle.cutting.proofs.whole.write_regions.Goals as goal
use Rattle.cutting.proofs.whole.write_regions.Goals.{then-work-marks-ne0, else-work-marks-ne0}

pub copy-p-requires : goal.copy-p-requires
copy-p-requires c = (regions-room _ _ _ _ _ _ _ _ c.requires.regions_in_bounds _ _ _ c.loop-r.invariant (omega arith) c.requires.regions_bound.1 c.if-work-marks-ne0.true, regions-inside c.args.from c.args.long c.args.regions (length c.args.store.now) c.loop-r.r c.requires.regions_bound.1 (omega arith))

pub returns : goal.returns
returns c = regions-done _ _ _ _ _ _ _ _ _ _ _ c.loop-r.invariant (omega arith)

pub loop-r-preserved : goal.loop-r-preserved
loop-r-preserved c = elim c.if-work-marks-ne0.branch [
  | then-work-marks-ne0 w ↦ rw (w.out-is, w.p-is) (regions-in _ _ _ _ _ _ _ _ c.requires.regions_in_bounds _ _ _ c.loop-r.invariant (omega arith) w.if-work-marks-ne0.true _ _ w.copy-p.ensures)
  | else-work-marks-ne0 w ↦ rw (w.out-is, w.p-is) (regions-out _ _ _ _ _ _ _ _ c.requires.regions_in_bounds _ _ _ c.loop-r.invariant (omega arith) w.if-work-marks-ne0.false)
]
