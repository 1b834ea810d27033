use Rattle.std.proofs.Common.{arith}
use Rattle.choosing.proofs.ChooseLaws.{group-ready, chosen}
use Rattle.choosing.proofs.choose.Goals as goal

pub group-t-requires : goal.group-t-requires
group-t-requires c = group-ready (omega arith) c.requires.1 c.take_in.ensures c.distinct-k.ensures

pub returns : goal.returns
returns c = chosen (omega arith) c.requires.1 c.take_in.ensures c.distinct-k.ensures c.group-t.ensures
