use borrow.Author.Rules.{rules}
use Rattle.ivs.proofs.ivs_work_words.Goals as goal

pub work_words-requires : goal.work_words-requires
work_words-requires c = search rules

pub returns : goal.returns
returns c = c.work_words.ensures
