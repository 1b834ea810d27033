-- What writing a glyph map answers, and what it leaves in the output. RULES R40, then R41 (G5). Assumes nothing.
use Rattle.std.specs.Prelude.{List, ℕ, ltb, length, Result, Ok, Err}
use Rattle.laws.specs.Pick.{pick}
use Rattle.laws.specs.Bytes.{over}
use Rattle.glyphs.specs.Packing.{map_bytes}
use Rattle.glyphs.specs.declared.write.WriteError.{WriteError}
use Rattle.glyphs.specs.declared.write.WriteError.TheVariants.{TooManyGlyphs, GlyphMapShort}

-- the most glyphs of a map (R40)
abbrev pub max_glyphs : ℕ
max_glyphs = 1048576

-- the numbers of its refusals
abbrev pub too_many_glyphs : ℕ
too_many_glyphs = 40

abbrev pub glyph_map_short : ℕ
glyph_map_short = 41

abbrev pub write_number : WriteError → ℕ
write_number TooManyGlyphs = too_many_glyphs
write_number GlyphMapShort = glyph_map_short

-- of words, and an output of `room` bytes
unfoldable pub glyphs_of : List ℕ → ℕ → Result ℕ WriteError
glyphs_of ws room =
    pick (ltb max_glyphs (length ws)) (Err TooManyGlyphs)
    (pick (ltb room (length (map_bytes ws))) (Err GlyphMapShort) (Ok (length (map_bytes ws))))

-- past the map all is as it was, and after a refusal everything
unfoldable pub glyphs_left : List ℕ → List ℕ → List ℕ
glyphs_left ws old =
    pick (ltb max_glyphs (length ws)) old
    (pick (ltb (length old) (length (map_bytes ws))) old (over old 0 (length (map_bytes ws)) (map_bytes ws)))
