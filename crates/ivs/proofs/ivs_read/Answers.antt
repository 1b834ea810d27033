use mathlib.Core.Path.{ap, ◌∙◌}
use Rattle.numbers.specs.ReadWords.{read_word}
use borrow.Author.Rules.{rules}
use Rattle.ivs.proofs.ivs_read.Goals as goal

pub read-requires : goal.read-requires
read-requires c = search rules

pub as_word-requires : goal.as_word-requires
as_word-requires c = search rules

pub returns : goal.returns
returns c = c.as_word.ensures ∙ ap read_word c.read.ensures
