use mathlib.Core.Path.{refl}
use Prim.Native.Nat.{◌+◌, ◌*◌}
use Rattle.job_scan.proofs.WriteLaws.{firsts-fit, firsts-done}
use native.Mathlib.Omega.{arith}
use Rattle.job_scan.proofs.regions.find_firsts.Goals as goal

pub write_regions-requires : goal.write_regions-requires
write_regions-requires c = record { axes_in_bounds = omega arith; regions_bound = omega arith }

pub identify-requires : goal.identify-requires
identify-requires c =
    let a = c.args in
    firsts-fit a.index (a.index + 2 * a.regions) a.axes a.regions a.job.now a.work.now _ (omega (arith, c.requires)) (omega arith)
    c.write_regions.ensures (omega (arith, c.requires)) (a.index + 2 * a.regions + a.regions * (6 * a.axes)) refl (omega (arith, c.requires))

pub returns : goal.returns
returns c =
    let a = c.args in
    firsts-done a.index (a.index + 2 * a.regions) a.axes a.regions a.job.now a.work.now _ (omega (arith, c.requires)) (omega arith)
    c.write_regions.ensures (omega (arith, c.requires)) (a.index + 2 * a.regions + a.regions * (6 * a.axes)) refl (omega (arith, c.requires))
    _ c.identify.result refl c.identify.ensures _ (omega arith)
