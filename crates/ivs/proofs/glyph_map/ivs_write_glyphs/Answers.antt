use mathlib.Core.Path.{ap, ◌∙◌}
use Rattle.numbers.specs.GlyphWords.{glyphs_word}
use Rattle.ivs.proofs.glyph_map.ivs_write_glyphs.Goals as goal

pub returns : goal.returns
returns c = record { value = c.written_word.ensures.glyphs ∙ ap glyphs_word c.write_glyphs.ensures.value; out_after = c.write_glyphs.ensures.out_after }
