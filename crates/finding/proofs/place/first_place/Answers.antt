use mathlib.Core.Path.{◌∙◌, ap}
use lib.ListN.{length}
use lib.Dec.{eqb}
use Rattle.std.proofs.Common.{rules, tests}
use Rattle.std.proofs.lemmas.Iterator.{YieldsList-from_slice}
use Rattle.std.proofs.lemmas.Iterator.Search.{position_from_yields_List}
use Rattle.std.specs.Option.{unwrap_or}
use Rattle.finding.proofs.FirstLaws.{first-found}
use Rattle.finding.proofs.place.first_place.Goals as goal

pub returns : goal.returns
returns c =
    c.unwrap_or.ensures
    ∙ ap (λ r. unwrap_or r (length c.args.words.now)) (position_from_yields_List (λ y. eqb y c.args.x) _ _ _ c.position.ensures.ran (YieldsList-from_slice c.args.words.now cc) (λ x b q k. search (rules, tests)))
    ∙ first-found c.args.x c.args.words.now
