use mathlib.Core.Path.{◌∙◌}
use Rattle.numbers.proofs.BitLaws.{bits-are}
use Rattle.numbers.proofs.bits.Goals as goal

pub returns : goal.returns
returns c = c.from.ensures ∙ c.cast_unsigned.ensures ∙ bits-are c.args.v c.ranges.v.sfits
