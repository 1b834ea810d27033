use mathlib.Core.Path.{ap, ◌∙◌}
use Rattle.numbers.specs.WidthWords.{widths_word}
use Rattle.ivs.proofs.width_table.ivs_write_widths.Goals as goal

pub returns : goal.returns
returns c = record { value = c.written_word.ensures.widths ∙ ap widths_word c.write_widths.ensures.value; out_after = c.write_widths.ensures.out_after }
