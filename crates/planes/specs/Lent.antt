-- What the clauses of `src/` say of lent words. Assumes nothing.
use Rattle.std.specs.Prelude.{◌≡◌, List, [], ◌∷◌, ℕ, ◌+◌, ◌*◌, ◌≤◌, ◌<◌, max, length, get_or, set}
use Rattle.std.specs.Int.Bits.{bit_or}
use Rattle.std.specs.Int.Count.{ones}
use Rattle.laws.specs.Bag.{sum}
use Rattle.laws.specs.LentRange.{Apart, Only, seg}
use Rattle.shapes.specs.Shape.{Shape, join}
use Rattle.shapes.specs.Lent.{Measured}
use Rattle.planes.specs.Plane.{IsCost, plane, word}

-- the n words from p on are the number x
pub record Holds (w : List ℕ) (p n x : ℕ) : Type 0 where
  pub at : (k : ℕ) → k < n → get_or w (p + k) 0 ≡ word x k

-- the 3 * n words from a on are the planes of s, one behind the other
pub record PlanesAt (w : List ℕ) (a n : ℕ) (s : Shape) : Type 0 where
  pub room : length s ≤ 32 * n
  pub costs : (k : ℕ) → IsCost (get_or s k 0)
  pub one : Holds w a n (plane 1 s)
  pub two : Holds w (a + n) n (plane 2 s)
  pub four : Holds w (a + n + n) n (plane 4 s)

-- the bits of word k of two numbers together
unfoldable pub or_ones : List ℕ → ℕ → ℕ → ℕ → ℕ
or_ones w p q k = ones (bit_or (get_or w (p + k) 0) (get_or w (q + k) 0))

-- r are the bits of the four words from i on of two numbers together
pub record FourOnes (w : List ℕ) (p q i r : ℕ) : Type 0 where
  pub most : r ≤ 128
  pub is : r ≡ or_ones w p q i + or_ones w p q (i + 1) + or_ones w p q (i + 2) + or_ones w p q (i + 3)

-- r are the bits of words i and i + 1 of two numbers together
pub record PairOnes (w : List ℕ) (p q i r : ℕ) : Type 0 where
  pub most : r ≤ 64
  pub is : r ≡ or_ones w p q i + or_ones w p q (i + 1)

-- r are those of the words from i on, up to n
pub record LastOnes (w : List ℕ) (p q i n r : ℕ) : Type 0 where
  pub most : r ≤ 32
  pub is : sum (or_ones w p q) i + r ≡ sum (or_ones w p q) n

-- count are the bits of the first i of n words of two numbers together
pub record Counting (w : List ℕ) (p q n count i : ℕ) : Type 0 where
  pub within : i ≤ n
  pub most : count ≤ 32 * i
  pub is : count ≡ sum (or_ones w p q) i

-- the numbers are those of the first i words of each plane of the shapes at a and b together
pub record CountedTo (w : List ℕ) (a b n one two four i : ℕ) : Type 0 where
  pub ones : Counting w a b n one i
  pub twos : Counting w (a + n) (b + n) n two i
  pub fours : Counting w (a + n + n) (b + n + n) n four i

-- the numbers are those of the bits together, which are the two shapes joined
pub record MeasuresJoin (w : List ℕ) (a b n row cols : ℕ) : Type 0 where
  pub row-bits : row ≡ sum (or_ones w a b) n + sum (or_ones w (a + n) (b + n)) n + 2 * sum (or_ones w (a + n + n) (b + n + n)) n
  pub columns-bits : cols ≡ sum (or_ones w a b) n
  pub is : (x y : Shape) → PlanesAt w a n x → PlanesAt w b n y → Measured (join x y) row cols

-- the words at a have the bits of both, so the shape there became the join; nothing else changed
pub record JoinsPlanes (a b n : ℕ) (old new : List ℕ) : Type 0 where
  pub only : Only ((a, 3 * n) ∷ []) old new
  pub words : (k : ℕ) → k < 3 * n → get_or new (a + k) 0 ≡ bit_or (get_or old (a + k) 0) (get_or old (b + k) 0)
  pub is : (x y : Shape) → PlanesAt old a n x → PlanesAt old b n y → PlanesAt new a n (join x y)

-- region r of the shape at a became as wide as c, where it was not wider
pub record PutsCost (a n r c : ℕ) (old new : List ℕ) : Type 0 where
  pub only : Only ((a, 3 * n) ∷ []) old new
  pub is : (s : Shape) → r < length s → PlanesAt old a n s → PlanesAt new a n (set s r (max (get_or s r 0) c))

-- a shape of m words from x on, and room for its planes at a elsewhere
pub record FillFit (x m a n : ℕ) (w : List ℕ) : Type 0 where
  pub shape-in : x + m ≤ length w
  pub planes-in : a + 3 * n ≤ length w
  pub apart : Apart x m a (3 * n)
  pub room : m ≤ 32 * n
  pub costs : (k : ℕ) → IsCost (get_or (seg x m w) k 0)

-- the planes were written, and nothing else changed
pub record Filled (x m a n : ℕ) (old new : List ℕ) : Type 0 where
  pub only : Only ((a, 3 * n) ∷ []) old new
  pub is : PlanesAt new a n (seg x m old)
