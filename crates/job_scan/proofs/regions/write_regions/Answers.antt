use Prim.Native.Nat.{◌*◌}
use lib.ListN.{length-set}
use Rattle.laws.proofs.Products.{row_fits}
use Rattle.said.specs.Records.{region_length}
use Rattle.job_scan.proofs.WriteLaws.{regioning-start, regioning-more, regioning-done}
use native.Mathlib.Omega.{arith}
use Rattle.job_scan.proofs.regions.write_regions.Goals as goal

pub loop-r-init : goal.loop-r-init
loop-r-init c =
    let a = c.args in
    regioning-start a.index a.body a.axes a.regions a.job.now a.work.now (omega arith) (omega arith)

pub write_region-requires : goal.write_region-requires
write_region-requires c =
    let a = c.args in
    let l = c.loop-r in
    let g = l.invariant in
    omega (arith, row_fits (region_length a.axes) a.regions l.r (omega arith), row_fits (6 * a.axes) a.regions l.r (omega arith), g.p-is, g.start_is, g.only.long)

pub overflow_cast-work : goal.overflow_cast-work
overflow_cast-work c =
    let a = c.args in
    let l = c.loop-r in
    let g = l.invariant in
    omega (arith, row_fits (6 * a.axes) a.regions l.r (omega arith), g.start_is, c.requires)

pub bounds-work-index : goal.bounds-work-index
bounds-work-index c =
    let a = c.args in
    let l = c.loop-r in
    omega (arith, c.write_region.ensures.only.long, l.invariant.only.long, row_fits (6 * a.axes) a.regions l.r (omega arith), c.requires)

pub bounds-work-index-in-loop-r : goal.bounds-work-index-in-loop-r
bounds-work-index-in-loop-r c =
    let a = c.args in
    let l = c.loop-r in
    simp length-set (omega (arith, c.write_region.ensures.only.long, l.invariant.only.long, row_fits (6 * a.axes) a.regions l.r (omega arith), c.requires))

pub overflow_add-p : goal.overflow_add-p
overflow_add-p c =
    let a = c.args in
    let l = c.loop-r in
    omega (arith, row_fits (region_length a.axes) a.regions l.r (omega arith), l.invariant.p-is, c.requires)

pub overflow_add-start : goal.overflow_add-start
overflow_add-start c =
    let a = c.args in
    let l = c.loop-r in
    omega (arith, row_fits (6 * a.axes) a.regions l.r (omega arith), l.invariant.start_is, c.requires)

pub loop-r-preserved : goal.loop-r-preserved
loop-r-preserved c =
    let a = c.args in
    let l = c.loop-r in
    regioning-more a.index a.body a.axes a.regions a.job.now a.work.now (omega (arith, c.requires)) (omega (arith, c.requires))
    l.work _ l.r l.p l.start l.invariant (omega arith) c.write_region.ensures c.region_long-p.result c.region_long-p.ensures

pub returns : goal.returns
returns c =
    let a = c.args in
    let l = c.loop-r in
    regioning-done a.index a.body a.axes a.regions a.job.now a.work.now (omega arith) (omega arith)
    l.work l.r l.p l.start l.invariant (omega arith)
