use Rattle.cells.proofs.AheadLaws.{look-more}
use mathlib.Core.Path.{refl}
use Rattle.cells.proofs.ahead.look_ahead.Goals as goal

pub loop-p-preserved : goal.loop-p-preserved
loop-p-preserved c = look-more _ _ _ c.requires _ _ _ _ _ c.loop-p.invariant c.loop-p-test.true refl c.one_more-zeros.ensures
