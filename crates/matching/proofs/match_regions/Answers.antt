use mathlib.Core.Path.{refl}
use Rattle.matching.proofs.SideLaws.{matching-fits, matching-done}
use Rattle.matching.proofs.match_regions.Goals as goal

pub identify-requires : goal.identify-requires
identify-requires c = matching-fits _ _ _ _ c.requires _ c.write_sides.ensures _ refl

pub returns : goal.returns
returns c = matching-done _ _ _ _ c.requires _ c.write_sides.ensures _ refl _ _ c.identify.ensures
