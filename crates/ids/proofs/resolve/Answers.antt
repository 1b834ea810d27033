use Rattle.std.proofs.Common.{arith}
use Rattle.ids.proofs.FirstSteps.{resolve-more, resolve-done}
use Rattle.ids.proofs.resolve.Goals as goal

pub loop-x-preserved : goal.loop-x-preserved
loop-x-preserved c = resolve-more _ _ _ c.requires.n_in_bounds c.requires.by_index c.loop-x.invariant (omega arith) _ c.wide-y.ensures

pub returns : goal.returns
returns c = resolve-done _ _ _ c.requires.n_in_bounds c.requires.by_index c.loop-x.invariant (omega arith)
