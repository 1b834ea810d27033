use native.Mathlib.Omega.{arith}
use Rattle.reader.proofs.StoreLaws.{header-fits}
use Rattle.cutting.proofs.WholeLaws.{list-head, list_inside, list-room, list-put, regions-are}
use Rattle.cutting.proofs.whole.write_list.Goals as goal

pub be-list-requires : goal.be-list-requires
be-list-requires c = record { k_bound = omega arith; k_in_bounds = omega (arith, header-fits _ c.requires.store_value.0) }

pub be-axes-requires : goal.be-axes-requires
be-axes-requires c = record { k_bound = omega arith; k_in_bounds = omega (arith, header-fits _ c.requires.store_value.0, c.be-list.ensures.is) }

pub be-regions-requires : goal.be-regions-requires
be-regions-requires c = record { k_bound = omega arith; k_in_bounds = omega (arith, header-fits _ c.requires.store_value.0, c.be-list.ensures.is) }

pub put-requires : goal.put-requires
put-requires c = omega (arith, list-head _ _ _ _ _ c.args.out.now c.requires.kept_in_bounds _ _ _ c.be-list.ensures.is c.be-axes.ensures.is c.be-regions.ensures.is)

pub put-requires-2 : goal.put-requires-2
put-requires-2 c = omega (arith, list-head _ _ _ _ _ c.args.out.now c.requires.kept_in_bounds _ _ _ c.be-list.ensures.is c.be-axes.ensures.is c.be-regions.ensures.is, c.put.auto.out)

pub write_regions-requires : goal.write_regions-requires
write_regions-requires c =
    let o = c.args.out.now in
    let x = c.be-list.ensures.is in
    let y = c.be-axes.ensures.is in
    let z = c.be-regions.ensures.is in
    record { regions_bound = (c.be-regions.ensures.below, list_inside _ _ _ _ _ o c.requires.kept_in_bounds _ _ _ x y z c.requires.store_value.0, omega (arith, regions-are _ _ _ _ _ o c.requires.kept_in_bounds _ _ _ x y z, c.requires.store_value.2)); regions_in_bounds = list-room _ _ _ _ _ o c.requires.kept_in_bounds _ _ _ x y z c.put.ensures c.put-2.ensures }

pub returns : goal.returns
returns c = list-put _ _ _ _ _ c.args.out.now c.requires.kept_in_bounds _ _ _ c.be-list.ensures.is c.be-axes.ensures.is c.be-regions.ensures.is c.put.ensures c.put-2.ensures c.write_regions.ensures
