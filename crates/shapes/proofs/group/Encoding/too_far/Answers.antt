use mathlib.Core.Path.{◌∙◌}
use Rattle.shapes.proofs.GroupLaws.{too-far-left, too-far-right}
use native.Mathlib.Omega.{arith}
use Rattle.shapes.proofs.group.Encoding.too_far.Goals as goal

pub returns-then-self-other : goal.returns-then-self-other
returns-then-self-other c = c.outweighs.ensures ∙ too-far-left _ _ _ _ _ _ _ c.min-columns.ensures (omega arith)

pub returns : goal.returns
returns c = c.outweighs-2.ensures ∙ too-far-right _ _ _ _ _ _ _ c.min-columns.ensures (omega arith)
