-- What the bytes of a glyph map mean: the word of one glyph. Written from OpenType's chapter on common table formats
-- for font variations, "Associating target items to variation data", by RULES G6 and G7. Nothing here knows how a map
-- is written.
use Rattle.std.specs.Prelude.{Bool, not, ◌&&◌, List, ℕ, ◌+◌, ◌-◌, ◌*◌, ◌/◌, ◌%◌, ◌^◌, eqb, ltb, leb, length, Result, Ok, Err}
use Rattle.laws.specs.Pick.{pick}
use Rattle.laws.specs.Bytes.{be}
use Rattle.reader.specs.declared.reader.ReadError.{ReadError}
use Rattle.reader.specs.declared.reader.ReadError.TheVariants.{BadGlyphMap}

-- The head: format (one byte), entry format (one byte), entry count (two bytes in format 0, four in format 1). Then the entries.
abbrev pub format_in : List ℕ → ℕ
format_in s = be 1 s 0

abbrev pub form_in : List ℕ → ℕ
form_in s = be 1 s 1

unfoldable pub entries_from : ℕ → ℕ
entries_from format = pick (eqb format 0) 4 6

unfoldable pub count_in : List ℕ → ℕ
count_in s = pick (eqb (format_in s) 0) (be 2 s 2) (be 4 s 2)

-- The entry format: bits 0 to 3 the inner bits less 1, bits 4 and 5 the bytes of an entry less 1, bits 6 and 7 reserved.
abbrev pub bits_in : List ℕ → ℕ
bits_in s = form_in s % 16 + 1

abbrev pub size_in : List ℕ → ℕ
size_in s = form_in s / 16 + 1

-- a sound map, and not an empty one (G7)
unfoldable pub is_map_ok : List ℕ → Bool
is_map_ok s =
    leb 4 (length s) &&
    (ltb (format_in s) 2 &&
    (ltb (form_in s) 64 &&
    (leb (entries_from (format_in s)) (length s) &&
    (not (eqb (count_in s) 0) && leb (entries_from (format_in s) + count_in s * size_in s) (length s)))))

-- the entry of a glyph (G6)
unfoldable pub entry_of_glyph : ℕ → ℕ → ℕ
entry_of_glyph n g = pick (ltb g n) g (n - 1)

unfoldable pub place_of : List ℕ → ℕ → ℕ
place_of s g = entries_from (format_in s) + entry_of_glyph (count_in s) g * size_in s

-- an entry's word: the bits above the inner ones are the outer number
unfoldable pub word_of : ℕ → ℕ → Result ℕ ReadError
word_of bits e = pick (ltb 65535 (e / 2 ^ bits)) (Err BadGlyphMap) (Ok (e / 2 ^ bits * 65536 + e % 2 ^ bits))

unfoldable pub read_map : List ℕ → ℕ → Result ℕ ReadError
read_map s g = pick (not (is_map_ok s)) (Err BadGlyphMap) (word_of (bits_in s) (be (size_in s) s (place_of s g)))
