use Rattle.arranging.proofs.NoneLaws.{none-fits, none-room, none-foretold}
use Rattle.closing.proofs.foretelling.foretell_none.Goals as goal

pub foretell-requires : goal.foretell-requires
foretell-requires c =
    let f = none-fits _ _ c.null_packing.ensures c.requires in
    record { axes_le_most_axes = f.0; words_fit = f.1; regions_in_bounds = none-room _ _ c.null_packing.ensures }

pub returns : goal.returns
returns c = none-foretold _ _ c.null_packing.ensures c.requires _ c.foretell.ensures
