use Rattle.merging.proofs.RunLaws.{running-less}
use Rattle.merging.proofs.run.join_all.Goals as goal

pub loop-s-smaller : goal.loop-s-smaller
loop-s-smaller c = running-less c.loop-s.invariant c.turn-turned.ensures c.tidy-s.ensures
