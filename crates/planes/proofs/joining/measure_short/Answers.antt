use Rattle.planes.proofs.JoinLaws.{counted-done}
use Rattle.planes.proofs.joining.measure_short.Goals as goal

pub returns : goal.returns
returns c = counted-done _ _ _ _ _ _ _ _ _ _ _ c.count_pairs-pairs.ensures.counted_to_2 c.last_ones.ensures c.last_ones-2.ensures c.last_ones-3.ensures
