use mathlib.Core.Path.{◌∙◌}
use Rattle.shapes.proofs.LentLaws.{narrow-small}
use Rattle.encoder.proofs.OwnLaws.{cost-done}
use Rattle.encoder.proofs.owning.cost_of.Goals as goal

pub cost-requires : goal.cost-requires
cost-requires c = narrow-small _ _ _ c.requires.narrow c.of-shape.ensures

pub returns : goal.returns
returns c = c.cost.ensures ∙ cost-done _ _ _ _ c.of-shape.ensures
