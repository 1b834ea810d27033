use Rattle.waits.proofs.WaitLaws.{opens-room, opens-more, opens-done}
use Rattle.waits.proofs.weigh_each.Goals as goal

pub offer_all-now-requires-clause-k_bound : goal.offer_all-now-requires-clause-k_bound
offer_all-now-requires-clause-k_bound c = (opens-room c.requires.opening c.args.pairs.now c.loop-k.invariant c.loop-k-test.true).0

pub offer_all-now-requires-clause-k_bound_2 : goal.offer_all-now-requires-clause-k_bound_2
offer_all-now-requires-clause-k_bound_2 c = (opens-room c.requires.opening c.args.pairs.now c.loop-k.invariant c.loop-k-test.true).1

pub loop-k-preserved : goal.loop-k-preserved
loop-k-preserved c = opens-more c.requires.opening c.args.pairs.now c.loop-k.invariant _ _ _ c.loop-k-test.true c.offer_all-now.ensures

pub returns : goal.returns
returns c = opens-done c.requires.opening c.args.pairs.now c.loop-k.invariant c.loop-k-test.false
