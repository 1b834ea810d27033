-- The shape of a set (RULES W3), and the starting groups of mode 0 in their order (M1). The number of a group is its
-- place in the list.
use Rattle.std.specs.Prelude.{◌≡◌, List, [], ◌∷◌, map, ℕ, ◌+◌}
use Rattle.std.specs.declared.cmp.Ordering.{Ordering}
use Rattle.std.specs.declared.cmp.Ordering.TheVariants.{Less, Equal, Greater}
use Rattle.laws.specs.Bounded.{tabulate}
use Rattle.laws.specs.Signed.{value}
use Rattle.shapes.specs.Width.{width_of, cost_of}
use Rattle.shapes.specs.Shape.{Shape}
use Rattle.shapes.specs.Order.{order}
use Rattle.shapes.specs.Group.{Group}
use Rattle.sets.specs.Set.{Set, word_of}
use Rattle.sets.specs.Ids.{distinct}
-- more distinct shapes are refused
pub use Rattle.limits.specs.Limits.{max_shapes}

-- the width of each of so many regions
unfoldable pub shape_of : ℕ → Set → Shape
shape_of regions s = tabulate 0 regions (λ k. cost_of (width_of (value (word_of s k))))

-- g comes before h
abbrev pub Before : Group → Group → Type 0
Before g h = order g.shape h.shape ≡ Less

-- a shape beside the first group, by their order: before it, in it, or in the groups behind it
unfoldable pub put_shape : Ordering → Shape → Group → List Group → List Group → List Group
put_shape Less s g behind later = record { shape = s; sets = 1 } ∷ g ∷ behind
put_shape Equal s g behind later = record { shape = g.shape; sets = g.sets + 1 } ∷ behind
put_shape Greater s g behind later = g ∷ later

-- one more set of a shape
unfoldable pub with_shape : List Group → Shape → List Group
with_shape [] s = record { shape = s; sets = 1 } ∷ []
with_shape (g ∷ groups) s = put_shape (order s g.shape) s g groups (with_shape groups s)

unfoldable pub groups_from : List Group → List Shape → List Group
groups_from groups [] = groups
groups_from groups (s ∷ l) = groups_from (with_shape groups s) l

-- the groups of a job's sets, each distinct set counted once
unfoldable pub groups_of : ℕ → List Set → List Group
groups_of regions sets = groups_from [] (map (shape_of regions) (distinct sets))
