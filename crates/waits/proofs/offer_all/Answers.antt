use Rattle.waits.proofs.WaitLaws.{offering-start, offering-room, offering-more, offering-done}
use Rattle.waits.proofs.offer_all.Goals as goal

pub loop-c-init : goal.loop-c-init
loop-c-init c = offering-start c.requires.asked c.args.at.weighed

pub offer-now-requires-clause-c_bound : goal.offer-now-requires-clause-c_bound
offer-now-requires-clause-c_bound c = (offering-room c.requires.asked c.loop-c.invariant _ c.loop-c-test.true c.requires.k_bound c.requires.k_bound_2).0

pub offer-now-requires-clause-c_bound_2 : goal.offer-now-requires-clause-c_bound_2
offer-now-requires-clause-c_bound_2 c = (offering-room c.requires.asked c.loop-c.invariant _ c.loop-c-test.true c.requires.k_bound c.requires.k_bound_2).1

pub loop-c-preserved : goal.loop-c-preserved
loop-c-preserved c = offering-more c.requires.asked c.loop-c.invariant _ _ _ c.loop-c-test.true c.offer-now.ensures

pub returns : goal.returns
returns c = offering-done c.requires.asked c.loop-c.invariant c.loop-c-test.false c.requires.k_bound c.raise_all.ensures
