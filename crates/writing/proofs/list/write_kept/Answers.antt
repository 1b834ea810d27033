use Rattle.store.proofs.ListLaws.{kept-start, kept-room, kept_in, kept_out, kept-done}
use native.Mathlib.Omega.{arith}
use Rattle.writing.proofs.list.write_kept.Goals as goal
use Rattle.writing.proofs.list.write_kept.Goals.{then-marks-r-ne0, else-marks-r-ne0}

pub loop-r-init : goal.loop-r-init
loop-r-init c = let a = c.args in kept-start a.src.now a.c.axes a.work.now a.c.starts a.marks.now a.regions a.at a.out.now

pub write_region-p-requires : goal.write_region-p-requires
write_region-p-requires c =
    let a = c.args in
    record { axes_bound = c.requires.axes_bound; sourced = c.requires.by_index c.loop-r.r c.loop-r-test.true; from_in_bounds = kept-room a.src.now a.c.axes a.work.now a.c.starts a.marks.now a.regions a.at a.out.now c.requires.regions_in_bounds_3 _ _ _ c.loop-r.invariant c.loop-r-test.true c.if-marks-r-ne0.true }

pub loop-r-preserved : goal.loop-r-preserved
loop-r-preserved c =
    let a = c.args in
    elim c.if-marks-r-ne0.branch [
      | then-marks-r-ne0 w ↦ rw (w.p-is, w.out-is) (kept_in a.src.now a.c.axes a.work.now a.c.starts a.marks.now a.regions a.at a.out.now c.requires.regions_in_bounds_3 _ _ _ c.loop-r.invariant c.loop-r-test.true w.if-marks-r-ne0.true _ _ w.write_region-p.ensures)
      | else-marks-r-ne0 w ↦ rw (w.p-is, w.out-is) (kept_out a.src.now a.c.axes a.work.now a.c.starts a.marks.now a.regions a.at a.out.now c.requires.regions_in_bounds_3 _ _ _ c.loop-r.invariant c.loop-r-test.true w.if-marks-r-ne0.false)
    ]

pub returns : goal.returns
returns c =
    let a = c.args in
    kept-done a.src.now a.c.axes a.work.now a.c.starts a.marks.now a.regions a.at a.out.now c.requires.regions_in_bounds_3 _ _ _ c.loop-r.invariant (omega arith)
