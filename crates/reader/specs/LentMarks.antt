-- Marks by bits in lent words, for region indexes that were seen. Assumes nothing.
use Rattle.std.specs.Prelude.{◌≡◌, List, [], ◌∷◌, ℕ, ◌/◌, ◌%◌, ◌^◌, ◌<◌, ltb, eqb, length, get_or, set}
use Rattle.std.specs.Int.Bits.{bit_or}
use Rattle.laws.specs.Pick.{pick}

-- mark x is bit x % 32 of word x / 32
unfoldable pub mark_at : List ℕ → ℕ → ℕ
mark_at w x = get_or w (x / 32) 0 / 2 ^ (x % 32) % 2

-- w with mark x made
unfoldable pub with_mark : List ℕ → ℕ → List ℕ
with_mark w x = set w (x / 32) (bit_or (get_or w (x / 32) 0) (2 ^ (x % 32)))

-- there is a mark for each number of two bytes below the count, and none is made
pub record NoMarks (regions : ℕ) (w : List ℕ) : Type 0 where
  pub room : (x : ℕ) → x < regions → x < 65536 → x / 32 < length w
  pub none : (x : ℕ) → mark_at w x ≡ 0

-- w with the marks of these indexes, up to the first that is too large, or that has its mark
unfoldable pub with_marks : ℕ → List ℕ → List ℕ → List ℕ
with_marks regions [] w = w
with_marks regions (x ∷ xs) w = pick (ltb x regions) (pick (eqb (mark_at w x) 0) (with_marks regions xs (with_mark w x)) (with_mark w x)) w
