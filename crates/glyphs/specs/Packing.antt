-- A glyph map as bytes: OpenType's DeltaSetIndexMap, by RULES G1 to G5. A word says where a glyph's deltas stand: outer
-- x 65,536 + inner. Nothing here knows how a map is read.
use Rattle.std.specs.Prelude.{List, [], ◌∷◌, ◌++◌, ℕ, zero, suc, ◌+◌, ◌-◌, ◌*◌, ◌/◌, ◌%◌, ◌^◌, eqb, ltb, length, get_or, take}
use Rattle.std.specs.Int.Bits.{bit_or}
use Rattle.std.specs.Int.Count.{count_leading_zeros}
use Rattle.laws.specs.Pick.{pick}
use Rattle.laws.specs.Bytes.{bytes_of}

abbrev pub outer_of : ℕ → ℕ
outer_of w = w / 65536

abbrev pub inner_of : ℕ → ℕ
inner_of w = w % 65536

-- the words ored, one after the other
unfoldable pub ored : ℕ → List ℕ → ℕ
ored all [] = all
ored all (w ∷ ws) = ored (bit_or all w) ws

abbrev pub together : List ℕ → ℕ
together ws = ored 0 ws

-- the inner bits, at least 1 (G2)
abbrev pub bits_of : ℕ → ℕ
bits_of n = 16 - count_leading_zeros 16 n

unfoldable pub inner_bit_count : ℕ → ℕ
inner_bit_count all = pick (eqb (bits_of (inner_of all)) 0) 1 (bits_of (inner_of all))

-- an entry: the outer number above the inner bits
unfoldable pub entry_of : ℕ → ℕ → ℕ
entry_of bits w = outer_of w * 2 ^ bits + inner_of w

-- the bytes of an entry, 1 to 4 (G3)
unfoldable pub bytes_for_entry : ℕ → ℕ
bytes_for_entry e = pick (ltb e 256) 1 (pick (ltb e 65536) 2 (pick (ltb e 16777216) 3 4))

-- of a list of words: the inner bits, the bytes of an entry, and the byte that says both
unfoldable pub map_bits : List ℕ → ℕ
map_bits ws = inner_bit_count (together ws)

unfoldable pub map_size : List ℕ → ℕ
map_size ws = bytes_for_entry (entry_of (map_bits ws) (together ws))

unfoldable pub entry_format : ℕ → ℕ → ℕ
entry_format size bits = (size - 1) * 16 + (bits - 1)

-- trailing repeats go (G4): how many of the first n words stay
unfoldable pub kept_of : List ℕ → ℕ → ℕ
kept_of ws zero = 0
kept_of ws (suc zero) = 1
kept_of ws (suc (suc n)) = pick (eqb (get_or ws (suc n) 0) (get_or ws n 0)) (kept_of ws (suc n)) (suc (suc n))

unfoldable pub count_of : List ℕ → ℕ
count_of ws = kept_of ws (length ws)

-- the head: format, entry format, and the count in k bytes; which format goes by the count (G5)
abbrev pub head_of : ℕ → ℕ → ℕ → ℕ → List ℕ
head_of format k form n = bytes_of 1 format ++ (bytes_of 1 form ++ bytes_of k n)

unfoldable pub head_for : ℕ → ℕ → List ℕ
head_for form n = pick (ltb n 65536) (head_of 0 2 form n) (head_of 1 4 form n)

unfoldable pub head_length : ℕ → ℕ
head_length n = pick (ltb n 65536) 4 6

-- the entries, one behind the other (G3)
unfoldable pub entries_of : ℕ → ℕ → List ℕ → List ℕ
entries_of size bits [] = []
entries_of size bits (w ∷ ws) = bytes_of size (entry_of bits w) ++ entries_of size bits ws

unfoldable pub map_bytes : List ℕ → List ℕ
map_bytes ws =
    head_for (entry_format (map_size ws) (map_bits ws)) (count_of ws) ++ entries_of (map_size ws) (map_bits ws) (take (count_of ws) ws)
