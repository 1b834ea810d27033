use lib.Seq.{length-take-le}
use Rattle.store.proofs.PlacedLaws.{store_long, kept-few, spots-room, list-room, body-room, store-put}
use native.Mathlib.Omega.{arith}
use Rattle.writing.proofs.whole.write_store.Goals as goal

pub write_header-at-requires : goal.write_header-at-requires
write_header-at-requires c = record { in_bounds = omega (arith, store_long _ _ _ _ _ _ _ _ _ _ _ _ c.requires.ready c.requires.planned, c.requires.work_in_bounds); runs_bound = c.requires.planned.runs-few }

pub write_spots-spots-requires : goal.write_spots-spots-requires
write_spots-spots-requires c =
    let r = c.requires.ready in
    let p = c.requires.planned in
    record { regions_le_max_regions = r.regions-most; count_in_bounds = r.rows; by_index = r.handed; by_index_2 = r.small; work_in_bounds = (spots-room _ _ _ _ _ _ _ _ _ _ _ _ r p _ c.requires.work_in_bounds _ _ c.write_header-at.ensures).0; work_bound = p.short }

pub write_list-list-requires : goal.write_list-list-requires
write_list-list-requires c =
    let r = c.requires.ready in
    let p = c.requires.planned in
    let l = length-take-le c.args.scratch c.args.work.now (omega (arith, c.requires.regions_in_bounds)) in
    record { axes_bound = omega (arith, r.axes-most); kept_bound = omega (arith, kept-few _ _ _ _ _ _ _ _ _ _ _ _ r p); regions_in_bounds = omega (arith, c.requires.regions_in_bounds); regions_bound = omega (arith, r.starting); by_index = r.sourced; regions_in_bounds_2 = (list-room _ _ _ _ _ _ _ _ _ _ _ _ r p _ c.requires.work_in_bounds _ _ _ _ _ c.write_header-at.ensures c.write_spots-spots.ensures).0 }

pub write_groups-requires : goal.write_groups-requires
write_groups-requires c =
    let r = c.requires.ready in
    let p = c.requires.planned in
    let l = length-take-le c.args.scratch c.args.work.now (omega (arith, c.requires.regions_in_bounds)) in
    record { regions_le_max_regions = r.regions-most; regions_in_bounds = c.requires.regions_in_bounds; count_bound = omega (arith, r.rows); by_index = r.handed; count_in_bounds = (body-room _ _ _ _ _ _ _ _ _ _ _ _ r p _ c.requires.work_in_bounds _ _ _ _ _ _ _ c.write_header-at.ensures c.write_spots-spots.ensures c.write_list-list.ensures).0 }

pub returns : goal.returns
returns c = record { put = store-put _ _ _ _ _ _ _ _ _ _ _ _ c.requires.ready c.requires.planned _ c.requires.work_in_bounds _ _ _ _ _ _ _ _ _ c.write_header-at.ensures c.write_spots-spots.ensures c.write_list-list.ensures c.write_groups.ensures.put; only = c.write_groups.ensures.only }
