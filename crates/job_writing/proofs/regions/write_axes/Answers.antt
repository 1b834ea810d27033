use native.Mathlib.Omega.{arith}
use Rattle.job_writing.proofs.PieceLaws.{piece-put, piece-done}
use Rattle.job_writing.proofs.RegionLaws.{axes-step, axes-room, axes-end}
use Rattle.job_writing.proofs.regions.write_axes.Goals as goal

pub put_axis-requires : goal.put_axis-requires
put_axis-requires c =
    let a = c.args in
    record { at_in_bounds = axes-room a.s.now a.q a.from a.axes c.loop-a.a c.requires.s_in_bounds c.loop-a.invariant c.loop-a-test.true; record_fits = (c.requires.record_fits.0, omega (arith, c.requires.record_fits.1), omega (arith, c.requires.record_fits.2)) }

pub loop-a-preserved : goal.loop-a-preserved
loop-a-preserved c =
    let a = c.args in
    piece-put _ _ c.requires.s_in_bounds c.loop-a.invariant (axes-step a.s.now a.q a.from a.axes c.loop-a.a c.loop-a-test.true) c.put_axis.ensures

pub returns : goal.returns
returns c =
    let a = c.args in
    piece-done c.loop-a.invariant (axes-end a.s.now a.q a.from a.axes _ (omega arith))
