-- The answer of writing a width table as the number that a host gets: the high half is 0 where nothing is refused, else the refusal number; the low half
-- is the bytes written. (Reading one value answers as reading a store does: `read_word`.)
use Rattle.std.specs.Prelude.{ℕ, ◌*◌, Result, Ok, Err}
use Rattle.glyphs.specs.declared.write.WriteError.{WriteError}
use Rattle.glyphs.specs.Answers.{write_number}

unfoldable pub widths_word : Result ℕ WriteError → ℕ
widths_word (Ok n) = n
widths_word (Err e) = write_number e * 4294967296
