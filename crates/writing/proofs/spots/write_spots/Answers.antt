use mathlib.Core.List.{List, ◌++◌}
use Prim.Native.Nat.{ℕ, ◌+◌, ◌*◌, ◌≤◌, ◌<◌}
use lib.ListN.{length}
use Rattle.store.specs.Lent.{chain, final_at, group_sizes, sizes_at, spots_of, sum_of}
use Rattle.store.proofs.GroupLaws.{left, left_step}
use Rattle.store.proofs.SpotLaws.{Spotting, spot-start, spot-group, group-spots, spot-done, left-all, left-none}
use native.Mathlib.Omega.{arith}
use Rattle.writing.proofs.spots.write_spots.Goals as goal

abbrev piece : List ℕ → ℕ → ℕ → ℕ → List ℕ
piece work regions groups g = group_sizes (final_at regions work (groups + 3 * g))

pub loop-g-init : goal.loop-g-init
loop-g-init c =
    let a = c.args in
    rw (left-all (piece a.work.now a.t.regions a.t.groups) a.t.count) (spot-start _ _ _ _)

pub write_group_spots-s-requires : goal.write_group_spots-s-requires
unfolding sizes_at
write_group_spots-s-requires c =
    let here : Spotting c.args.at c.args.first (chain (piece c.args.work.now c.args.t.regions c.args.t.groups) c.args.t.count) c.args.out.now c.loop-g.out c.loop-g.p c.loop-g.next (piece c.args.work.now c.args.t.regions c.args.t.groups c.loop-g.g ++ left (piece c.args.work.now c.args.t.regions c.args.t.groups) c.args.t.count (c.loop-g.g + 1)) = rw (left_step (piece c.args.work.now c.args.t.regions c.args.t.groups) c.args.t.count c.loop-g.g c.loop-g-test.true) at c.loop-g.invariant in
    let bounds : (c.loop-g.p + length (spots_of c.loop-g.next (piece c.args.work.now c.args.t.regions c.args.t.groups c.loop-g.g)) ≤ length c.loop-g.out) × (c.loop-g.next + sum_of (piece c.args.work.now c.args.t.regions c.args.t.groups c.loop-g.g) < 4294967296) = group-spots _ _ _ _ c.requires.work_in_bounds _ _ _ _ _ (here) c.requires.work_bound in
    record { regions_le_max_regions = c.requires.regions_le_max_regions; handed = c.requires.by_index c.loop-g.g c.loop-g-test.true; small = c.requires.by_index_2 c.loop-g.g c.loop-g-test.true; group_in_bounds = (bounds).0; group_bound = (bounds).1 }

pub loop-g-preserved : goal.loop-g-preserved
unfolding sizes_at
loop-g-preserved c =
    let here : Spotting c.args.at c.args.first (chain (piece c.args.work.now c.args.t.regions c.args.t.groups) c.args.t.count) c.args.out.now c.loop-g.out c.loop-g.p c.loop-g.next (piece c.args.work.now c.args.t.regions c.args.t.groups c.loop-g.g ++ left (piece c.args.work.now c.args.t.regions c.args.t.groups) c.args.t.count (c.loop-g.g + 1)) = rw (left_step (piece c.args.work.now c.args.t.regions c.args.t.groups) c.args.t.count c.loop-g.g c.loop-g-test.true) at c.loop-g.invariant in
    spot-group _ _ _ _ c.requires.work_in_bounds _ _ _ _ _ (here) _ _ _ c.write_group_spots-s.ensures

pub returns : goal.returns
unfolding sizes_at
returns c =
    let a = c.args in
    spot-done _ _ _ _ _ _ _ _ c.loop-g.invariant (left-none (piece a.work.now a.t.regions a.t.groups) a.t.count _ (omega arith))
