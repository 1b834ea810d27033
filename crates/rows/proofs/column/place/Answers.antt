use Rattle.rows.proofs.InWork.{clear-ok, clear-zeros, clear-placed}
use native.Mathlib.Omega.{arith}
use Rattle.rows.proofs.column.place.Goals as goal

pub mark-requires : goal.mark-requires
mark-requires c =
    let q = c.requires in
    let z = c.zero_part.ensures in
    record { n_bound = q.n_bound; n_bound_2 = q.n_bound_2; regions_in_bounds = omega (arith, q.regions_in_bounds, z.only.long); work_value = clear-ok _ _ _ _ _ _ q.n_bound_2 q.regions_in_bounds z q.work_value; work_value_2 = clear-zeros _ _ _ _ _ _ q.n_bound_2 q.regions_in_bounds z }

pub returns : goal.returns
returns c = let q = c.requires in clear-placed _ _ _ _ _ _ q.n_bound_2 q.regions_in_bounds c.zero_part.ensures _ c.mark.ensures
