use mathlib.Core.Path.{◌≡◌}
use Prim.Native.Nat.{◌+◌}
use lib.ListN.{get_or}
use Rattle.store.specs.Lent.{final_at, group_sizes, run_sizes}
use Rattle.store.proofs.SpotLaws.{group-sizes-are}
use native.Mathlib.Omega.{arith}
use Rattle.writing.proofs.spots.write_group_spots.Goals as goal

pub write_run_spots-requires : goal.write_run_spots-requires
write_run_spots-requires c =
    let sizes : group_sizes (final_at c.args.t.regions c.args.work.now c.args.group) ≡ run_sizes c.form_of-form.result.count c.column_at-row.result (get_or c.args.work.now (c.args.group + 2) 0) = group-sizes-are c.args.t.regions c.args.work.now c.args.group _ _ _ c.requires.handed.ids c.form_of-form.ensures c.column_at-row.ensures.value in
    record { n_bound = omega (arith, c.form_of-form.ensures.count_most); row_bound = c.column_at-row.ensures.upper_bound; count_le_most_records = c.requires.small.few; count_in_bounds = rw (← sizes) c.requires.group_in_bounds; count_bound = rw (← sizes) c.requires.group_bound }

pub returns : goal.returns
returns c =
    let sizes : group_sizes (final_at c.args.t.regions c.args.work.now c.args.group) ≡ run_sizes c.form_of-form.result.count c.column_at-row.result (get_or c.args.work.now (c.args.group + 2) 0) = group-sizes-are c.args.t.regions c.args.work.now c.args.group _ _ _ c.requires.handed.ids c.form_of-form.ensures c.column_at-row.ensures.value in
    rw (sizes) c.write_run_spots.ensures
