use Rattle.std.proofs.Common.{sym, ap, ◌∙◌}
use Rattle.sets.specs.Order.{order_of, order}
use Rattle.ids.specs.LentFirsts.{is_same}
use Rattle.ids.proofs.FirstSteps.{begins-none, begins-some}
use Rattle.ids.proofs.begins.Goals as goal

pub returns-then-i-eq0 : goal.returns-then-i-eq0
returns-then-i-eq0 c = begins-none _ _ _ _ c.if-i-eq0.true

pub returns-in-Equal : goal.returns-in-Equal
unfolding is_same order order_of
returns-in-Equal c = begins-some _ _ _ _ _ _ _ c.if-i-eq0.false c.wide-x.ensures c.wide-y.ensures (ap order_of (sym c.compare.ensures.walked ∙ c.in-Equal.is))

pub returns-in-Smaller : goal.returns-in-Smaller
unfolding is_same order order_of
returns-in-Smaller c = begins-some _ _ _ _ _ _ _ c.if-i-eq0.false c.wide-x.ensures c.wide-y.ensures (ap order_of (sym c.compare.ensures.walked ∙ c.in-Smaller.is))

pub returns-in-Larger : goal.returns-in-Larger
unfolding is_same order order_of
returns-in-Larger c = begins-some _ _ _ _ _ _ _ c.if-i-eq0.false c.wide-x.ensures c.wide-y.ensures (ap order_of (sym c.compare.ensures.walked ∙ c.in-Larger.is))
