-- Answers of the glyph map as the numbers that a host gets: the high half is 0 where nothing is refused, else the refusal number.
use Rattle.std.specs.Prelude.{ℕ, ◌*◌, Result, Ok, Err}
use Rattle.reader.specs.declared.reader.ReadError.{ReadError}
use Rattle.reader.specs.Store.{read_number}
use Rattle.glyphs.specs.declared.write.WriteError.{WriteError}
use Rattle.glyphs.specs.Answers.{write_number}

-- of writing: the low half is the bytes written
unfoldable pub glyphs_word : Result ℕ WriteError → ℕ
glyphs_word (Ok n) = n
glyphs_word (Err e) = write_number e * 4294967296

-- of reading: the low half is the glyph's word
unfoldable pub entry_word : Result ℕ ReadError → ℕ
entry_word (Ok w) = w
entry_word (Err e) = read_number e * 4294967296
