use Prim.Native.Nat.{◌+◌}
use Rattle.laws.specs.LentRange.{seg}
use Rattle.writing.proofs.LaidLaws.{one-shape, one-ids, one-sets, one-bytes}
use native.Mathlib.Omega.{arith}
use Rattle.writing.proofs.groups.write_one.Goals as goal

pub write_group-requires : goal.write_group-requires
write_group-requires c =
    let a = c.args in
    let q = c.requires in
    let w = a.work.now in
    let h = q.handed in
    record { regions_le_max_regions = q.regions_le_max_regions; regions_in_bounds = q.regions_in_bounds; regions_bound = one-shape a.t.regions a.t.index a.scratch a.group w (omega (arith, q.regions_in_bounds)) h; count_bound = omega (arith, c.slice_known-3-1.given (a.group + 2)); count_bound_2 = one-ids a.t.regions a.t.index a.scratch a.group w (omega (arith, q.regions_in_bounds)) h; all = one-sets a.t.regions a.t.index a.scratch a.group w (omega (arith, q.regions_in_bounds)) h; work_in_bounds = rw (← one-bytes a.t.regions a.t.index a.scratch a.group w (omega (arith, q.regions_in_bounds)) h (seg (a.scratch + a.t.regions) a.t.regions w)) q.group_in_bounds }

pub returns : goal.returns
returns c =
    let a = c.args in
    let q = c.requires in
    let w = a.work.now in
    record { put = rw (one-bytes a.t.regions a.t.index a.scratch a.group w (omega (arith, q.regions_in_bounds)) q.handed (seg (a.scratch + a.t.regions) a.t.regions w)) c.write_group.ensures.put; only = c.write_group.ensures.only }
