use mathlib.Core.Path.{sym, ap, ◌∙◌}
use Rattle.sets.specs.Lent.{at_most}
use Rattle.laws.specs.Order.{is_most}
use Rattle.sets.specs.declared.Parting.{Parting}
use Rattle.sets.specs.Order.{order_of, order}
use Rattle.comparing.proofs.at_most.Goals as goal

pub returns-in-Equal : goal.returns-in-Equal
unfolding at_most is_most order order_of
returns-in-Equal c = ap (λ (p : Parting). is_most (order_of p)) (sym c.in-Equal.is ∙ c.compare.ensures.walked)

pub returns-in-Smaller : goal.returns-in-Smaller
unfolding at_most is_most order order_of
returns-in-Smaller c = ap (λ (p : Parting). is_most (order_of p)) (sym c.in-Smaller.is ∙ c.compare.ensures.walked)

pub returns-in-Larger : goal.returns-in-Larger
unfolding at_most is_most order order_of
returns-in-Larger c = ap (λ (p : Parting). is_most (order_of p)) (sym c.in-Larger.is ∙ c.compare.ensures.walked)
