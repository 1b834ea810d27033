use mathlib.Core.Path.{sym, ◌∙◌}
use Rattle.shapes.proofs.LentLaws.{order_same, order-by-cost}
use Rattle.shapes.proofs.shape.RowShape.order.Goals as goal

pub returns-in-Equal : goal.returns-in-Equal
returns-in-Equal c = c.widths_order.ensures ∙ order_same _ _ _ _ c.requires.x_value c.requires.y_value (sym c.compare.ensures ∙ c.in-Equal.is)

pub returns-in_default : goal.returns-in_default
returns-in_default c = order-by-cost _ _ _ _ c.requires.x_value c.requires.y_value _ c.compare.ensures c.in_default.not-Equal
