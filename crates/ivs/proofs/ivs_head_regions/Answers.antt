use borrow.Author.Rules.{rules}
use Rattle.ivs.proofs.ivs_head_regions.Goals as goal

pub head_regions-requires : goal.head_regions-requires
head_regions-requires c = search rules

pub returns : goal.returns
returns c = c.head_regions.ensures
