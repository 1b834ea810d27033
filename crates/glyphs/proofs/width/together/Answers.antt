use mathlib.Core.Path.{sym, ◌∙◌}
use Rattle.glyphs.proofs.WidthLaws.{ored-more, ored-done}
use native.Mathlib.Omega.{arith}
use Rattle.glyphs.proofs.width.together.Goals as goal

pub loop-word-preserved : goal.loop-word-preserved
loop-word-preserved c = let l = c.loop-word in sym (ored-more l.all _ l.word-index (omega arith)) ∙ l.invariant

pub returns : goal.returns
returns c = let l = c.loop-word in sym (ored-done l.all _ l.word-index (omega arith)) ∙ l.invariant
