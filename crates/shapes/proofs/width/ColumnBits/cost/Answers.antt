use mathlib.Core.Path.{sym, ap}
use Rattle.shapes.specs.Width.{cost_of}
use Rattle.shapes.proofs.width.ColumnBits.cost.Goals as goal

pub returns-in-None : goal.returns-in-None
unfolding cost_of
returns-in-None c = ap cost_of (sym c.in-None.is)

pub returns-in-One : goal.returns-in-One
unfolding cost_of
returns-in-One c = ap cost_of (sym c.in-One.is)

pub returns-in-Two : goal.returns-in-Two
unfolding cost_of
returns-in-Two c = ap cost_of (sym c.in-Two.is)

pub returns-in-Four : goal.returns-in-Four
unfolding cost_of
returns-in-Four c = ap cost_of (sym c.in-Four.is)
