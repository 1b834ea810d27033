use Rattle.ids.proofs.ScreenLaws.{sift-fit, screened}
use Rattle.ids.proofs.screening.screen.Goals as goal

pub sift-requires-clause-ids_fit : goal.sift-requires-clause-ids_fit
sift-requires-clause-ids_fit c = sift-fit c.requires c.zero_part.ensures

pub returns : goal.returns
returns c = screened c.requires c.zero_part.ensures c.sift.ensures
