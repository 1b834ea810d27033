use Rattle.merging.proofs.FinishLaws.{finishing-more}
use Rattle.merging.proofs.optimizing.resolve_all.Goals as goal

pub loop-c-preserved : goal.loop-c-preserved
loop-c-preserved c = finishing-more _ _ _ c.requires _ _ c.loop-c.invariant c.loop-c-test.true _ c.resolve.ensures
