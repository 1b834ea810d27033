-- The answer of reading one value as the number that a host gets.
use Rattle.std.specs.Prelude.{ℕ, ◌*◌, Some, None, Ok, Err}
use Rattle.laws.specs.Signed.{twos}
use Rattle.reader.specs.Store.{Reading, read_number}

-- of reading one value: the high half is 0 for written, 1 for no column, else the refusal number; the low half is the value's 32 bits
unfoldable pub read_word : Reading → ℕ
read_word (Ok (Some v)) = twos 4 v
read_word (Ok None) = 4294967296
read_word (Err e) = read_number e * 4294967296
