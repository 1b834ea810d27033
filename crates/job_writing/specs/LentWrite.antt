-- What the clauses of private functions cite. Assumes nothing.
use Rattle.std.specs.Prelude.{List, ◌++◌, ℕ}
use Rattle.laws.specs.Bytes.{bytes_of}

-- a record as three numbers of four bytes
abbrev pub three_words : ℕ → ℕ → ℕ → List ℕ
three_words a b c = bytes_of 4 a ++ (bytes_of 4 b ++ bytes_of 4 c)
