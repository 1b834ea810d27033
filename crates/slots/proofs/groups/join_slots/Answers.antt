use Rattle.slots.proofs.SlotLaws.{sum_fits, join-done}
use Rattle.slots.proofs.groups.join_slots.Goals as goal

pub overflow_add-work-3 : goal.overflow_add-work-3
overflow_add-work-3 c = let h = c.requires in record { fits = sum_fits _ _ _ _ _ h.sound h.a_lt_groups h.b_lt_groups c.join_shapes.ensures h.b_bound }

pub returns : goal.returns
returns c = let h = c.requires in join-done _ _ _ _ _ h.sound h.a_lt_groups h.b_lt_groups c.join_shapes.ensures _ c.note_costs.ensures
