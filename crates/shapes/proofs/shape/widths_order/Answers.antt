use mathlib.Core.Path.{sym, ◌∙◌}
use Rattle.shapes.proofs.LentLaws.{widths-start, widths-differ, widths-same, widths-none}
use native.Mathlib.Omega.{arith}
use Rattle.shapes.proofs.shape.widths_order.Goals as goal

pub loop-i-init : goal.loop-i-init
loop-i-init c = (omega arith, widths-start _ _ c.requires)

pub returns-then-a-i : goal.returns-then-a-i
returns-then-a-i c = c.compare.ensures ∙ widths-differ _ _ c.requires c.loop-i.i (omega arith) (omega arith) c.loop-i.invariant.1 (λ e. omega arith)

pub loop-i-preserved : goal.loop-i-preserved
loop-i-preserved c = (omega arith, widths-same _ _ c.requires c.loop-i.i (omega arith) (omega arith) c.loop-i.invariant.1 (omega arith))

pub returns : goal.returns
returns c = sym (widths-none _ _ c.loop-i.i (omega arith)) ∙ c.loop-i.invariant.1
