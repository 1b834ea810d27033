-- The answers of the glyph map as numbers, and that each half of a number says what it is to. Assumes nothing.
use mathlib.Core.Path.{◌≡◌, subst}
use mathlib.Core.List.{List}
use Prim.Native.Nat.{ℕ, ◌/◌, ◌%◌}
use native.Mathlib.Omega.{arith}
use Rattle.std.specs.Prelude.{Ok, Err}
use Rattle.reader.specs.declared.reader.ReadError.{ReadError}
use Rattle.glyphs.specs.declared.write.WriteError.{WriteError}
use Rattle.glyphs.specs.Reading.{read_map}
use Rattle.glyphs.proofs.SmallLaws.{GlyphsSmall, glyphs-small, EntrySmall, entry-small}
use Rattle.reader.specs.Store.{read_number}
use Rattle.glyphs.specs.Answers.{glyphs_of, write_number}
use Rattle.numbers.specs.GlyphWords.{glyphs_word, entry_word}

-- ---- the halves

abbrev pub Halves : ℕ → ℕ → ℕ → Type 0
Halves x high low = (x / 4294967296 ≡ high) × (x % 4294967296 ≡ low)

pub glyphs-halves : (ws : List ℕ) (room n : ℕ) → glyphs_of ws room ≡ Ok n → Halves (glyphs_word (glyphs_of ws room)) 0 n
unfolding glyphs_word
glyphs-halves ws room n f = let small = subst GlyphsSmall f (glyphs-small ws room) in rw f (omega arith, omega arith)

pub refused-halves : (ws : List ℕ) (room : ℕ) (x : WriteError) → glyphs_of ws room ≡ Err x → Halves (glyphs_word (glyphs_of ws room)) (write_number x) 0
unfolding glyphs_word
refused-halves ws room x f = rw f (omega arith, omega arith)

pub word-halves : (s : List ℕ) (g w : ℕ) → read_map s g ≡ Ok w → Halves (entry_word (read_map s g)) 0 w
unfolding entry_word
word-halves s g w f = let small = subst EntrySmall f (entry-small s g) in rw f (omega arith, omega arith)

pub unread-halves : (s : List ℕ) (g : ℕ) (x : ReadError) → read_map s g ≡ Err x → Halves (entry_word (read_map s g)) (read_number x) 0
unfolding entry_word
unread-halves s g x f = rw f (omega arith, omega arith)
