use Rattle.store.proofs.RegionLaws.{spot-to, marking-more}
use native.Mathlib.Omega.{arith}
use Rattle.planning.proofs.regions.mark_groups.Goals as goal

pub mark_shape-requires : goal.mark_shape-requires
mark_shape-requires c =
    let q = c.requires in
    let l = c.loop-g in
    record { regions_bound = spot-to (omega (arith, q.regions_in_bounds)) l.invariant (omega (arith, q.count_bound, c.loop-g-test.true)) _ (q.by_index l.g c.loop-g-test.true); regions_in_bounds = omega (arith, l.invariant.only.long, q.regions_in_bounds) }

pub loop-g-preserved : goal.loop-g-preserved
loop-g-preserved c = let q = c.requires in let l = c.loop-g in marking-more (omega (arith, q.regions_in_bounds)) l.invariant (omega (arith, q.count_bound, c.loop-g-test.true)) _ (q.by_index l.g c.loop-g-test.true) _ c.mark_shape.ensures
