use mathlib.Core.Path.{sym, ◌∙◌, ap₂}
use Rattle.shapes.specs.Order.{order}
use Rattle.table.proofs.TableSteps.{part-shape, cost-part, part_length}
use borrow.Author.Rules.{rules}
use Rattle.table.proofs.compare_slots.Goals as goal

pub known_cost-known-requires : goal.known_cost-known-requires
known_cost-known-requires c = record { slot_fits = search rules; costed = search rules }

pub order-requires : goal.order-requires
order-requires c = record { x_value = cost-part c.args.t c.args.a _ _ c.requires.cost_value; y_value = cost-part c.args.t c.args.b _ _ c.known_cost-known.ensures; a_len = part_length c.args.t c.args.a _ c.requires.slot_fits ∙ sym (part_length c.args.t c.args.b _ c.requires.slot_fits_2) }

pub returns : goal.returns
returns c = let s = c.args in c.order.ensures ∙ ap₂ order (part-shape s.t s.a _) (part-shape s.t s.b _)
