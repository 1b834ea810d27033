-- The columns of a shape (RULES C1), how many bytes each takes (C2), and the word count (C3).
use Rattle.std.specs.Prelude.{Bool, true, false, List, [], ◌∷◌, ◌++◌, ℕ, ◌+◌, eqb, ltb, length}
use Rattle.laws.specs.Pick.{pick}
use Rattle.shapes.specs.Shape.{Shape}

unfoldable pub add_if : Bool → ℕ → List ℕ → List ℕ
add_if true r l = r ∷ l
add_if false r l = l

-- the regions whose width is w, in order; the shape's first region is number r
unfoldable pub of_width : ℕ → ℕ → Shape → List ℕ
of_width w r [] = []
of_width w r (v ∷ s) = add_if (eqb v w) r (of_width w (r + 1) s)

-- the regions of the columns, in their order
unfoldable pub columns_of : Shape → List ℕ
columns_of s = of_width 4 0 s ++ (of_width 2 0 s ++ of_width 1 0 s)

abbrev pub fours : Shape → ℕ
fours s = length (of_width 4 0 s)

abbrev pub twoes : Shape → ℕ
twoes s = length (of_width 2 0 s)

unfoldable pub word_count : Shape → ℕ
word_count s = pick (ltb 0 (fours s)) (fours s + 0x8000) (twoes s)

-- how many bytes a value of width w takes in a row of the shape
unfoldable pub bytes_for_width : Shape → ℕ → ℕ
bytes_for_width s w = pick (ltb 0 (fours s)) (pick (eqb w 4) 4 2) w
