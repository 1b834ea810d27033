-- Mode 1's one group has all shapes joined (RULES F5).
use Rattle.std.specs.Prelude.{List, [], ◌∷◌, ℕ, replicate}
use Rattle.shapes.specs.Shape.{Shape, join}
use Rattle.sets.specs.Set.{Set}
use Rattle.groups.specs.Groups.{shape_of}

-- a shape joined with those of some sets
unfoldable pub cover_from : ℕ → Shape → List Set → Shape
cover_from regions s [] = s
cover_from regions s (x ∷ l) = cover_from regions (join s (shape_of regions x)) l

-- the join of all, from the shape with no column
abbrev pub cover_of : ℕ → List Set → Shape
cover_of regions sets = cover_from regions (replicate regions 0) sets
