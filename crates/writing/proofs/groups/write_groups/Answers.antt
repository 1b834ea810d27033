use Rattle.writing.proofs.LaidLaws.{grouping-start, still-handed, grouping-room, grouping-more, grouping-done}
use native.Mathlib.Omega.{arith}
use Rattle.writing.proofs.groups.write_groups.Goals as goal

pub loop-g-init : goal.loop-g-init
loop-g-init c = grouping-start _ _ _ _ _ _ _ _ c.requires.regions_in_bounds c.requires.count_in_bounds

pub write_one-a-requires : goal.write_one-a-requires
write_one-a-requires c =
    let q = c.requires in
    let l = c.loop-g in
    record { regions_le_max_regions = q.regions_le_max_regions; regions_in_bounds = omega (arith, q.regions_in_bounds, l.invariant.only.long); handed = still-handed _ _ _ _ _ _ _ _ q.regions_in_bounds q.count_in_bounds _ _ _ _ l.invariant _ (q.by_index l.g c.loop-g-test.true); group_in_bounds = grouping-room _ _ _ _ _ _ _ _ q.regions_in_bounds q.count_in_bounds _ _ _ _ l.invariant c.loop-g-test.true }

pub loop-g-preserved : goal.loop-g-preserved
loop-g-preserved c =
    let q = c.requires in
    let l = c.loop-g in
    grouping-more _ _ _ _ _ _ _ _ q.regions_in_bounds q.count_in_bounds _ _ _ _ l.invariant _ _ _ c.loop-g-test.true c.write_one-a.ensures.put c.write_one-a.ensures.only

pub returns : goal.returns
returns c = record { put = grouping-done _ _ _ _ _ _ _ _ c.requires.regions_in_bounds c.requires.count_in_bounds _ _ _ _ c.loop-g.invariant (omega arith); only = c.loop-g.invariant.only }
