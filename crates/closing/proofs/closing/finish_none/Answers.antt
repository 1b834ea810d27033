use Rattle.arranging.proofs.NoneLaws.{none-fit, none-room, none_done}
use Rattle.closing.proofs.closing.finish_none.Goals as goal

pub finish-requires : goal.finish-requires
finish-requires c = record { finish_fit = none-fit _ _ c.null_packing.ensures _ c.requires; regions_in_bounds = none-room _ _ c.null_packing.ensures }

pub returns : goal.returns
returns c = none_done _ _ c.null_packing.ensures _ _ _ _ c.finish.ensures
