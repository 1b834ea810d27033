use Rattle.slots.proofs.SlotLaws.{fill-fits, measured-in}
use Rattle.slots.proofs.groups.measure.Goals as goal

pub fill-requires : goal.fill-requires
fill-requires c = fill-fits _ _ _ _ _ _ c.requires.shaped c.requires.s_lt_groups c.slot-x.ensures c.plane-y.ensures c.plane_long-words.ensures

pub returns : goal.returns
returns c = measured-in _ _ _ _ _ _ _ c.requires.shaped c.requires.s_lt_groups c.slot-x.ensures c.plane-y.ensures c.plane_long-words.ensures c.fill.ensures _ c.note_costs.ensures
