use Rattle.slots.proofs.TableLaws.{plane-room, plane-few}
use Rattle.slots.proofs.SlotLaws.{noted_in}
use Rattle.slots.proofs.groups.note_costs.Goals as goal

pub measure_words-shape-requires : goal.measure_words-shape-requires
measure_words-shape-requires c =
    let h = c.requires in
    let r = plane-room _ _ _ _ _ h.laid h.s_lt_groups c.plane-x.ensures c.plane_long-words.ensures in
    record { words_bound = plane-few _ _ _ h.laid c.plane_long-words.ensures; words_in_bounds = r; words_in_bounds_2 = r }

pub returns : goal.returns
returns c = noted_in _ _ _ _ _ _ _ c.requires.laid c.requires.s_lt_groups c.plane-x.ensures c.plane_long-words.ensures c.measure_words-shape.ensures
