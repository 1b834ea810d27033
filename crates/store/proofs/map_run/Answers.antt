use Prim.Native.Nat.{◌+◌, ◌<◌}
use lib.ListN.{length, get_or}
use Rattle.laws.proofs.RangeLaws.{seg_all}
use Rattle.store.proofs.MapLaws.{run_more, run-done}
use native.Mathlib.Omega.{arith}
use Rattle.store.proofs.map_run.Goals as goal

pub bounds-map-x : goal.bounds-map-x
bounds-map-x c =
    let below : get_or c.args.work.now (c.args.ids + c.loop-i.i) 0 < length c.loop-i.map = let a = c.args in
    omega (arith, seg_all (λ x. x < length a.map.now) a.items a.ids a.work.now c.requires.in_bounds c.requires.all (a.ids + c.loop-i.i) (omega arith) (omega arith), c.loop-i.auto) in
    below

pub loop-i-preserved : goal.loop-i-preserved
loop-i-preserved c =
    let a = c.args in
    run_more a.outer a.work.now a.ids a.items c.requires.in_bounds _ c.loop-i.map c.loop-i.i c.loop-i.invariant c.loop-i-test.true

pub returns : goal.returns
returns c =
    let a = c.args in
    run-done a.outer a.work.now a.ids a.items c.requires.in_bounds _ c.loop-i.map c.loop-i.i c.loop-i.invariant (omega arith)
