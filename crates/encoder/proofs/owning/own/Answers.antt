use Rattle.encoder.proofs.OwnLaws.{ids-fit, rows_fit, slots-few, cover-fit, words-room, words-at, words-long, words-fit, cost-room, cost-narrow, cost-few, own-done}
use native.Mathlib.Omega.{arith}
use Rattle.encoder.proofs.owning.own.Goals as goal

pub own_ids-requires : goal.own_ids-requires
own_ids-requires c =
    let q = c.requires in
    record { n_in_bounds = (ids-fit q.fit q.sets_nonzero).0; n_bound = (ids-fit q.fit q.sets_nonzero).1 }

pub own_ids-requires-2 : goal.own_ids-requires-2
own_ids-requires-2 c =
    let q = c.requires in
    record { n_in_bounds = (rows_fit q.fit q.sets_nonzero c.own_ids.ensures).0; n_bound = (rows_fit q.fit q.sets_nonzero c.own_ids.ensures).1 }

pub overflow_add-p : goal.overflow_add-p
overflow_add-p c = let q = c.requires in omega (arith, slots-few q.fit q.sets_nonzero)

pub cover-requires : goal.cover-requires
cover-requires c = let q = c.requires in cover-fit q.fit q.sets_nonzero c.own_ids.ensures c.own_ids-2.ensures

pub slice_bounds-put_group-end : goal.slice_bounds-put_group-end
slice_bounds-put_group-end c = let q = c.requires in omega (arith, words-room q.fit q.sets_nonzero c.own_ids.ensures c.own_ids-2.ensures c.cover.ensures)

pub put_group-requires : goal.put_group-requires
put_group-requires c =
    let q = c.requires in
    record {
      long = words-long q.fit q.sets_nonzero c.own_ids.ensures c.own_ids-2.ensures c.cover.ensures;
      few = words-fit q.fit q.sets_nonzero c.own_ids.ensures c.own_ids-2.ensures c.cover.ensures;
    }

pub slice_bounds-cost_of-end : goal.slice_bounds-cost_of-end
slice_bounds-cost_of-end c =
    let q = c.requires in
    let g = words-at q.fit q.sets_nonzero c.own_ids.ensures c.own_ids-2.ensures c.cover.ensures c.put_group.ensures in
    omega (arith, cost-room q.fit q.sets_nonzero c.own_ids.ensures c.own_ids-2.ensures c.cover.ensures g)

pub cost_of-cost-requires : goal.cost_of-cost-requires
cost_of-cost-requires c =
    let q = c.requires in
    let g = words-at q.fit q.sets_nonzero c.own_ids.ensures c.own_ids-2.ensures c.cover.ensures c.put_group.ensures in
    record {
      narrow = cost-narrow q.fit q.sets_nonzero c.own_ids.ensures c.own_ids-2.ensures c.cover.ensures g;
      few = cost-few q.fit q.sets_nonzero c.own_ids.ensures c.own_ids-2.ensures c.cover.ensures g;
    }

pub returns : goal.returns
returns c =
    let q = c.requires in
    own-done q.fit q.sets_nonzero c.own_ids.ensures c.own_ids-2.ensures c.cover.ensures
    (words-at q.fit q.sets_nonzero c.own_ids.ensures c.own_ids-2.ensures c.cover.ensures c.put_group.ensures) _ c.cost_of-cost.ensures
