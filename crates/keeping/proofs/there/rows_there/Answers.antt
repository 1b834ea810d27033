use mathlib.Core.Path.{◌∙◌}
use Prim.Native.Nat.{◌/◌, ◌%◌}
use Rattle.std.proofs.Common.{rules, tests}
use Rattle.std.proofs.lemmas.Iterator.{YieldsList-from_slice}
use Rattle.std.proofs.lemmas.Iterator.Search.{all_from_yields_List}
use Rattle.stores.specs.Stores.{store_at}
use Rattle.stores.specs.Coordinates.{is_row_there}
use Rattle.keeping.proofs.KeepLaws.{all_there_is}
use Rattle.keeping.proofs.there.rows_there.Goals as goal

pub returns : goal.returns
returns c =
    all_from_yields_List (λ x. is_row_there (store_at c.args.store.now) (x / 65536) (x % 65536)) _ _ _ c.all.ensures.ran (YieldsList-from_slice c.args.rows.now cc) (λ x b q k. search (rules, tests))
    ∙ all_there_is _ _
