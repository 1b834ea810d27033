-- What lent words say of the zeros of a store, and the next cell that is not zero. Assumes nothing.
use Rattle.std.specs.Prelude.{◌≡◌, List, [], ◌∷◌, ℕ, ◌+◌, ◌≤◌, ◌<◌, length, get_or}
use Rattle.laws.specs.Bytes.{be}
use Rattle.laws.specs.LentRange.{Only}
use Rattle.reader.specs.Store.{column_start, column_width}

-- the z bytes from p on are zero, and the next, where there is one and z is not all that a word can say, is not
pub record ZerosFrom (s : List ℕ) (p z : ℕ) : Type 0 where
  pub zeros : (i : ℕ) → i < z → get_or s (p + i) 0 ≡ 0
  pub stops : z < 4294967295 → p + z < length s → get_or s (p + z) 0 ≡ 0 → ⊥

-- one byte before z zeros: none from it on where it is not zero, else one more, as far as a word can say it
pub record OneMore (byte z r : ℕ) : Type 0 where
  pub none : (byte ≡ 0 → ⊥) → r ≡ 0
  pub more : byte ≡ 0 → z < 4294967295 → r ≡ z + 1
  pub full : byte ≡ 0 → 4294967295 ≤ z → r ≡ z

-- word at + p says it of each byte p
pub record Ahead (s : List ℕ) (at : ℕ) (w : List ℕ) : Type 0 where
  pub room : at + length s ≤ length w
  pub says : (p : ℕ) → p < length s → ZerosFrom s p (get_or w (at + p) 0)

pub record LooksAhead (s : List ℕ) (at : ℕ) (old new : List ℕ) : Type 0 where
  pub only : Only ((at, length s) ∷ []) old new
  pub ahead : Ahead s at new

-- the number that the bytes of column i are
abbrev pub cell_of : List ℕ → (row word i : ℕ) → ℕ
cell_of s row word i = be (column_width word i) s (row + column_start word i)

-- a row of n columns lies in the store, and j is one of them or n
pub record CellsFit (s w : List ℕ) (at row word n j : ℕ) : Type 0 where
  pub ahead : Ahead s at w
  pub word_low : word < 65536
  pub columns-few : n < 65536
  pub inside : row + column_start word n ≤ length s
  pub from : j ≤ n

-- the columns from i on up to r are of one width
pub record RunEnd (word n i r : ℕ) : Type 0 where
  pub behind : i < r
  pub within : r ≤ n
  pub same : (m : ℕ) → i ≤ m → m < r → column_width word m ≡ column_width word i

pub record NextCell (s : List ℕ) (row word n j r : ℕ) : Type 0 where
  pub behind : j ≤ r
  pub within : r ≤ n
  pub zeros : (i : ℕ) → j ≤ i → i < r → cell_of s row word i ≡ 0
  pub there : r < n → cell_of s row word r ≡ 0 → ⊥
