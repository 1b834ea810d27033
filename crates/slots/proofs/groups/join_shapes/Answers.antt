use Rattle.slots.proofs.SlotLaws.{laid_kept, join-asks, join-planes-asks, shapes-joined}
use Rattle.slots.proofs.groups.join_shapes.Goals as goal

pub join-requires : goal.join-requires
join-requires c =
    let h = c.requires in
    record { n_in_bounds = (join-asks _ _ _ _ _ _ h.sound.shaped.laid h.a_lt_groups h.b_lt_groups h.slots_differ c.slot-x.ensures c.slot-y.ensures).0; n_in_bounds_2 = (join-asks _ _ _ _ _ _ h.sound.shaped.laid h.a_lt_groups h.b_lt_groups h.slots_differ c.slot-x.ensures c.slot-y.ensures).1.0; apart = (join-asks _ _ _ _ _ _ h.sound.shaped.laid h.a_lt_groups h.b_lt_groups h.slots_differ c.slot-x.ensures c.slot-y.ensures).1.1 }

pub join_into-requires : goal.join_into-requires
join_into-requires c =
    let h = c.requires in
    record { words_in_bounds = (join-planes-asks _ _ _ _ _ _ _ (laid_kept _ _ _ h.sound.shaped.laid c.join.ensures.only) h.a_lt_groups h.b_lt_groups h.slots_differ c.plane-p.ensures c.plane-q.ensures c.plane_long-words.ensures).0; words_in_bounds_2 = (join-planes-asks _ _ _ _ _ _ _ (laid_kept _ _ _ h.sound.shaped.laid c.join.ensures.only) h.a_lt_groups h.b_lt_groups h.slots_differ c.plane-p.ensures c.plane-q.ensures c.plane_long-words.ensures).1.0; apart = (join-planes-asks _ _ _ _ _ _ _ (laid_kept _ _ _ h.sound.shaped.laid c.join.ensures.only) h.a_lt_groups h.b_lt_groups h.slots_differ c.plane-p.ensures c.plane-q.ensures c.plane_long-words.ensures).1.1 }

pub returns : goal.returns
returns c =
    let h = c.requires in
    shapes-joined _ _ _ _ _ _ _ _ _ _ _ h.sound h.a_lt_groups h.b_lt_groups c.slot-x.ensures c.slot-y.ensures c.plane-p.ensures c.plane-q.ensures c.plane_long-words.ensures c.join.ensures c.join_into.ensures
