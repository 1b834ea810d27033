use Rattle.ids.specs.LentFirsts.{Firsting, BlockFit}
use Rattle.ids.proofs.firsts_block.Given as goal

abbrev pub invariant-loop-i : goal.invariant-loop-i
invariant-loop-i l = ((f : BlockFit l.initial.work l.index l.at l.first l.from l.to) → Firsting l.index l.at f.n l.first f.fit.all f.old l.work l.i)
