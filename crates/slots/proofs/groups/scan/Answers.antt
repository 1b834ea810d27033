use Rattle.slots.proofs.TableLaws.{plane-room, plane-few, costs-small, joined_small, weigh-is, gain-few}
use native.Mathlib.Omega.{arith}
use Rattle.slots.proofs.groups.scan.Goals as goal

pub measure_join-joined-requires : goal.measure_join-joined-requires
measure_join-joined-requires c =
    let h = c.requires in
    let n = c.plane_long-words.ensures in
    record { words_bound = plane-few _ _ _ h.sound.shaped.laid n; words_in_bounds = plane-room _ _ _ _ _ h.sound.shaped.laid h.a_lt_groups c.plane-x.ensures n; words_in_bounds_2 = plane-room _ _ _ _ _ h.sound.shaped.laid h.b_lt_groups c.plane-y.ensures n }

pub gain-saved-requires : goal.gain-saved-requires
gain-saved-requires c =
    let h = c.requires in
    record { small = costs-small _ _ _ _ _ _ h.sound h.a_lt_groups c.costs-first.ensures; small_2 = costs-small _ _ _ _ _ _ h.sound h.b_lt_groups c.costs-second.ensures; small_3 = joined_small _ _ _ _ _ _ _ _ _ h.sound h.a_lt_groups h.b_lt_groups c.plane-x.ensures c.plane-y.ensures c.plane_long-words.ensures c.measure_join-joined.ensures }

pub overflow_cast-result : goal.overflow_cast-result
overflow_cast-result c =
    let h = c.requires in
    let e = weigh-is _ _ _ _ _ _ _ _ _ h.sound h.a_lt_groups h.b_lt_groups c.plane-x.ensures c.plane-y.ensures c.plane_long-words.ensures c.measure_join-joined.ensures _ _ _ _ _ _ _ c.costs-first.ensures c.costs-second.ensures c.gain-saved.ensures in
    let f = gain-few _ _ _ _ _ h.sound.shaped h.a_lt_groups e in
    omega arith

pub returns : goal.returns
returns c =
    let h = c.requires in
    weigh-is _ _ _ _ _ _ _ _ _ h.sound h.a_lt_groups h.b_lt_groups c.plane-x.ensures c.plane-y.ensures c.plane_long-words.ensures c.measure_join-joined.ensures _ _ _ _ _ _ _ c.costs-first.ensures c.costs-second.ensures c.gain-saved.ensures
