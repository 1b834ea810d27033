use Rattle.std.proofs.Common.{arith}
use Rattle.choosing.proofs.FindLaws.{places-more, places-done}
use Rattle.choosing.proofs.finding.write_places.Goals as goal

pub find-j-requires : goal.find-j-requires
find-j-requires c = (c.requires.k_in_bounds.0, c.requires.k_in_bounds.2, c.requires.by_index _ (omega arith))

pub loop-i-preserved : goal.loop-i-preserved
loop-i-preserved c = places-more _ _ _ _ _ c.requires.k_in_bounds.2 (omega arith) _ _ _ c.loop-i.invariant (omega arith) c.find-j.ensures

pub returns : goal.returns
returns c = places-done _ _ _ _ _ _ _ c.loop-i.invariant (omega arith)
