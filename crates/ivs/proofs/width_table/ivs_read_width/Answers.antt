use mathlib.Core.Path.{ap, ◌∙◌}
use Rattle.numbers.specs.ReadWords.{read_word}
use borrow.Author.Rules.{rules}
use Rattle.ivs.proofs.width_table.ivs_read_width.Goals as goal

pub read_width-requires : goal.read_width-requires
read_width-requires c = search rules

pub as_word-requires : goal.as_word-requires
as_word-requires c = search rules

pub returns : goal.returns
returns c = c.as_word.ensures ∙ ap read_word c.read_width.ensures
