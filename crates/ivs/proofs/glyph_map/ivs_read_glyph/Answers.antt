use mathlib.Core.Path.{ap, ◌∙◌}
use Rattle.numbers.specs.GlyphWords.{entry_word}
use Rattle.ivs.proofs.glyph_map.ivs_read_glyph.Goals as goal

pub returns : goal.returns
returns c = c.glyph_word.ensures ∙ ap entry_word c.read_glyph.ensures
