use mathlib.Core.Path.{◌∙◌}
use Rattle.laws.proofs.OrderLaws.{compared-is}
use Rattle.laws.proofs.compare.Goals as goal

pub returns : goal.returns
returns c = c.cmp.ensures ∙ compared-is c.args.a c.args.b
