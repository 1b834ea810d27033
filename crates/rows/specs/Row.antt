-- The bytes of one row (RULES C4): a region without a column is passed over.
use Rattle.std.specs.Prelude.{◌≡◌, List, [], ◌∷◌, ◌++◌, ℕ, ◌^◌, ◌≤◌, ◌<◌, eqb, ℤ, get_or}
use Rattle.laws.specs.Pick.{pick}
use Rattle.laws.specs.Bytes.{bytes_of}
use Rattle.laws.specs.Signed.{twos, zero_word, value}
use Rattle.shapes.specs.Shape.{Shape}
use Rattle.shapes.specs.Width.{width_of, cost_of}
use Rattle.rows.specs.Columns.{columns_of, bytes_for_width}

-- a set: (region, word) for each region that it names; a word stands for a value (`value`)
abbrev pub Set : Type 0
Set = List (ℕ × ℕ)

-- the word of region r: that of zero where the set names no such region
unfoldable pub word_in : Set → ℕ → ℕ
word_in [] r = zero_word
word_in (e ∷ l) r = pick (eqb e.0 r) e.1 (word_in l r)

-- the value of region r
abbrev pub value_in : Set → ℕ → ℤ
value_in set r = value (word_in set r)

-- the columns of the regions rs, each value as two's complement at its column's width
unfoldable pub cells_of : Shape → Set → List ℕ → List ℕ
cells_of s set [] = []
cells_of s set (r ∷ rs) = bytes_of (bytes_for_width s (get_or s r 0)) (twos 4 (value_in set r)) ++ cells_of s set rs

unfoldable pub row_of : Shape → Set → List ℕ
row_of s set = cells_of s set (columns_of s)

-- each width of the shape is that of None, One, Two or Four
pub record Widths (s : Shape) : Type 0 where
  pub most : (r : ℕ) → get_or s r 0 ≤ 4
  pub one_of : (r : ℕ) → get_or s r 0 ≡ 3 → ⊥

-- the shape's widths hold the set's values, each of 32 bits
pub record Covers (s : Shape) (set : Set) : Type 0 where
  pub word : (r : ℕ) → word_in set r < 256 ^ 4
  pub holds : (r : ℕ) → cost_of (width_of (value_in set r)) ≤ get_or s r 0
