-- Glyph maps worked out by the definitions: bytes of four lists of words, and what the reader says of some. Assumes nothing.
use mathlib.Core.Path.{◌≡◌, refl}
use mathlib.Core.List.{List, [], ◌∷◌, map}
use Prim.Native.Nat.{ℕ}
use lib.Count.{count_leading_zeros}
use Rattle.std.specs.Prelude.{Result, Ok, Err}
use Rattle.reader.specs.declared.reader.ReadError.TheVariants.{BadGlyphMap}
use Rattle.reader.specs.declared.reader.ReadError.{ReadError}
use Rattle.reader.specs.Store.{read_number}
use Rattle.glyphs.specs.declared.write.WriteError.TheVariants.{TooManyGlyphs, GlyphMapShort}
use Rattle.glyphs.specs.Answers.{write_number}
use Rattle.laws.specs.Bytes.{be, bytes_of}
use Rattle.glyphs.specs.Packing.{ored, inner_bit_count, entry_of, bytes_for_entry, map_bits, map_size, entry_format, kept_of, count_of, head_for, entries_of, map_bytes}
use Rattle.glyphs.specs.Reading.{entries_from, count_in, is_map_ok, entry_of_glyph, place_of, word_of, read_map}

-- three glyphs of one subtable; three trailing repeats, of which one stays; none; outer numbers, so that an entry takes two bytes
abbrev lists : List (List ℕ)
lists =
    (1 ∷ 2 ∷ 3 ∷ [])
    ∷ (5 ∷ 7 ∷ 7 ∷ 7 ∷ [])
    ∷ []
    ∷ (0x0040_0100 ∷ 1 ∷ [])
    ∷ []

pub maps-worked : map map_bytes lists ≡
    (0 ∷ 0x01 ∷ 0 ∷ 3 ∷ 1 ∷ 2 ∷ 3 ∷ [])
    ∷ (0 ∷ 0x02 ∷ 0 ∷ 2 ∷ 5 ∷ 7 ∷ [])
    ∷ (0 ∷ 0 ∷ 0 ∷ 0 ∷ [])
    ∷ (0 ∷ 0x18 ∷ 0 ∷ 2 ∷ 0x81 ∷ 0 ∷ 0 ∷ 1 ∷ [])
    ∷ []
unfolding map_bytes head_for entry_format map_size map_bits inner_bit_count count_leading_zeros count_of kept_of entries_of bytes_for_entry entry_of ored bytes_of
maps-worked = refl

-- the second map at its first glyph, at one whose entry was dropped, and past the end; the fourth at its first; format 2; a reserved bit; a map
-- that runs past the end; an outer number of 65,536; one entry in format 1
abbrev reads : List (Result ℕ ReadError)
reads =
    read_map (0 ∷ 2 ∷ 0 ∷ 2 ∷ 5 ∷ 7 ∷ []) 0
    ∷ read_map (0 ∷ 2 ∷ 0 ∷ 2 ∷ 5 ∷ 7 ∷ []) 3
    ∷ read_map (0 ∷ 2 ∷ 0 ∷ 2 ∷ 5 ∷ 7 ∷ []) 1000
    ∷ read_map (0 ∷ 0x18 ∷ 0 ∷ 2 ∷ 0x81 ∷ 0 ∷ 0 ∷ 1 ∷ []) 0
    ∷ read_map (2 ∷ 2 ∷ 0 ∷ 2 ∷ 5 ∷ 7 ∷ []) 0
    ∷ read_map (0 ∷ 0x42 ∷ 0 ∷ 2 ∷ 5 ∷ 7 ∷ []) 0
    ∷ read_map (0 ∷ 2 ∷ 0 ∷ 3 ∷ 5 ∷ 7 ∷ []) 0
    ∷ read_map (0 ∷ 0x20 ∷ 0 ∷ 1 ∷ 2 ∷ 0 ∷ 0 ∷ []) 0
    ∷ read_map (1 ∷ 0 ∷ 0 ∷ 0 ∷ 0 ∷ 1 ∷ 1 ∷ []) 0
    ∷ []

pub reads-worked : reads ≡ Ok 5 ∷ Ok 7 ∷ Ok 7 ∷ Ok 0x0040_0100 ∷ Err BadGlyphMap ∷ Err BadGlyphMap ∷ Err BadGlyphMap ∷ Err BadGlyphMap ∷ Ok 1 ∷ []
unfolding read_map is_map_ok entries_from count_in entry_of_glyph place_of word_of be
reads-worked = refl

-- the refusals' numbers (R42), 0 where a word is read
abbrev refusal_of : Result ℕ ReadError → ℕ
refusal_of (Ok w) = 0
refusal_of (Err e) = read_number e

pub refusals-worked : map refusal_of reads ≡ 0 ∷ 0 ∷ 0 ∷ 0 ∷ 42 ∷ 42 ∷ 42 ∷ 42 ∷ 0 ∷ []
unfolding read_map is_map_ok entries_from count_in entry_of_glyph place_of word_of be
refusals-worked = refl

-- each error's number (R40, R41)
pub numbers-worked : map write_number (TooManyGlyphs ∷ GlyphMapShort ∷ []) ≡ 40 ∷ 41 ∷ []
numbers-worked = refl
