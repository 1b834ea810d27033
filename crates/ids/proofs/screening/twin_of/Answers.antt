use Rattle.std.proofs.Common.{sym, ap, ◌∙◌}
use Rattle.sets.specs.Order.{order_of, order}
use Rattle.ids.proofs.screening.twin_of.Goals as goal

pub returns-in-Equal : goal.returns-in-Equal
unfolding order order_of
returns-in-Equal c = (c.in_ok-y.was, ap order_of (sym c.compare.ensures.walked ∙ c.in-Equal.is))
