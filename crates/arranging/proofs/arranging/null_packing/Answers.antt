use Rattle.arranging.proofs.NoneLaws.{null_is}
use borrow.Author.Rules.{rules}
use Rattle.arranging.proofs.arranging.null_packing.Goals as goal

pub nowhere-requires : goal.nowhere-requires
nowhere-requires c = search rules

pub returns : goal.returns
returns c = null_is _ _ c.nowhere.ensures
