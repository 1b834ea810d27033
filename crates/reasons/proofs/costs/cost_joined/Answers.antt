use mathlib.Core.Path.{◌∙◌}
use Rattle.reasons.proofs.CostLaws.{first-narrow, second-narrow, both_long, joined_small, joined-cost}
use Rattle.reasons.proofs.costs.cost_joined.Goals as goal

pub joined-shape-requires : goal.joined-shape-requires
joined-shape-requires c = record { narrow = first-narrow _ _ _ _ _ c.requires; narrow_2 = second-narrow _ _ _ _ _ c.requires; a_len = both_long _ _ _ _ _ c.requires }

pub cost-requires : goal.cost-requires
cost-requires c = joined_small _ _ _ _ _ c.requires _ _ c.joined-shape.ensures

pub returns : goal.returns
returns c = c.cost.ensures ∙ joined-cost _ _ _ _ _ c.requires _ _ c.joined-shape.ensures
