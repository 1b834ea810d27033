use Rattle.planes.proofs.FillLaws.{zeroed-fit, zeroed-filled}
use Rattle.planes.proofs.filling.fill.Goals as goal

pub put_all-requires : goal.put_all-requires
put_all-requires c = record { fill_fit = zeroed-fit c.requires c.zero_part.ensures; by_index = c.zero_part.ensures.is }

pub returns : goal.returns
returns c = zeroed-filled c.requires c.zero_part.ensures c.put_all.ensures
