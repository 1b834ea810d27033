use mathlib.Core.Path.{sym, ◌∙◌}
use Rattle.slots.proofs.TableLaws.{costs-small, far-is}
use Rattle.slots.proofs.groups.weigh.Goals as goal

pub too_far-requires : goal.too_far-requires
too_far-requires c = record { small = costs-small _ _ _ _ _ _ c.requires.sound c.requires.a_lt_groups c.costs-one.ensures; small_2 = costs-small _ _ _ _ _ _ c.requires.sound c.requires.b_lt_groups c.costs-other.ensures }

pub returns-then-too_far : goal.returns-then-too_far
returns-then-too_far c = far-is _ _ _ _ _ _ _ _ _ _ c.requires.sound c.requires.a_lt_groups c.requires.b_lt_groups c.costs-one.ensures c.costs-other.ensures (sym c.too_far.ensures ∙ c.if-too_far.true)
