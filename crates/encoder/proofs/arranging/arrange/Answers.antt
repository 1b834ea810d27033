use Rattle.encoder.proofs.ArrangeLaws.{homed-fit, shared-fit, arranged}
use Rattle.encoder.proofs.arranging.arrange.Goals as goal

pub find_places-requires : goal.find_places-requires
find_places-requires c = homed-fit c.requires c.line_up-count.ensures

pub share_out-requires : goal.share_out-requires
share_out-requires c = shared-fit c.requires c.line_up-count.ensures c.find_places.ensures

pub returns : goal.returns
returns c = arranged c.requires c.line_up-count.ensures c.find_places.ensures c.share_out.ensures
