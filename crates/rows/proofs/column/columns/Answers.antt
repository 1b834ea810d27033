use Rattle.rows.proofs.InWork.{pass-one, two_from, pass-two, three-from, pass-three, form-wide, form-narrow}
use native.Mathlib.Omega.{arith}
use Rattle.rows.proofs.column.columns.Goals as goal

pub collect-fours-requires : goal.collect-fours-requires
collect-fours-requires c =
    let q = c.requires in
    record { regions_bound = q.regions_bound; regions_bound_2 = q.regions_bound_2; work_in_bounds = pass-one _ _ _ _ q.regions_bound q.regions_bound_2 q.regions_in_bounds }

pub collect-twos-requires : goal.collect-twos-requires
collect-twos-requires c =
    let q = c.requires in
    let p = c.collect-fours.ensures in
    record { regions_bound = q.regions_bound; regions_bound_2 = omega (arith, q.regions_bound_2, two_from _ _ _ _ q.regions_bound q.regions_bound_2 q.regions_in_bounds _ _ p); work_in_bounds = pass-two _ _ _ _ q.regions_bound q.regions_bound_2 q.regions_in_bounds _ _ p }

pub collect-end-requires : goal.collect-end-requires
collect-end-requires c =
    let q = c.requires in
    let p = c.collect-fours.ensures in
    let r = c.collect-twos.ensures in
    record { regions_bound = q.regions_bound; regions_bound_2 = omega (arith, q.regions_bound_2, two_from _ _ _ _ q.regions_bound q.regions_bound_2 q.regions_in_bounds _ _ p, three-from _ _ _ _ q.regions_bound q.regions_bound_2 q.regions_in_bounds _ _ p _ _ r); work_in_bounds = pass-three _ _ _ _ q.regions_bound q.regions_bound_2 q.regions_in_bounds _ _ p _ _ r }

pub returns-then-cols-fours : goal.returns-then-cols-fours
returns-then-cols-fours c = let q = c.requires in form-wide _ _ _ _ q.regions_bound q.regions_bound_2 q.regions_in_bounds _ _ c.collect-fours.ensures _ _ c.collect-twos.ensures _ _ c.collect-end.ensures c.if-cols-fours.true

pub returns : goal.returns
returns c = let q = c.requires in form-narrow _ _ _ _ q.regions_bound q.regions_bound_2 q.regions_in_bounds _ _ c.collect-fours.ensures _ _ c.collect-twos.ensures _ _ c.collect-end.ensures c.if-cols-fours.false
