-- Mode 1's shape covers every set. Assumes nothing.
use mathlib.Core.Path.{◌≡◌, refl}
use mathlib.Core.List.{List, [], ◌∷◌, ◌++◌}
use Prim.Native.Nat.{ℕ, ◌≤◌}
use native.Mathlib.Omega.{arith}
use lib.ListN.{length, get_or}
use Rattle.laws.specs.Every.{All}
use Rattle.shapes.specs.Shape.{Shape, join}
use Rattle.shapes.proofs.ShapeLaws.{join-at, join-length}
use Rattle.sets.specs.Set.{Set}
use Rattle.groups.specs.Groups.{shape_of}
use Rattle.groups.specs.Cover.{cover_from}
use Rattle.groups.proofs.GroupLaws.{shape-length}

pub cover-snoc : (regions : ℕ) (s : Shape) (l : List Set) (x : Set) → cover_from regions s (l ++ (x ∷ [])) ≡ join (cover_from regions s l) (shape_of regions x)
unfolding cover_from
cover-snoc regions s [] x = refl
cover-snoc regions s (y ∷ l) x = cover-snoc regions (join s (shape_of regions y)) l x

pub cover-length : (regions : ℕ) (s : Shape) (l : List Set) → length s ≡ regions → length (cover_from regions s l) ≡ regions
unfolding cover_from
cover-length regions s [] h = h
cover-length regions s (x ∷ l) h = cover-length regions (join s (shape_of regions x)) l (join-length regions s (shape_of regions x) h (shape-length regions x))

-- each region's width is at least the set's: THE LAW that nothing is cut off
cover-more : (regions : ℕ) (s : Shape) (l : List Set) (k : ℕ) → get_or s k 0 ≤ get_or (cover_from regions s l) k 0
unfolding cover_from
cover-more regions s [] k = omega arith
cover-more regions s (x ∷ l) k = omega (arith, join-at s (shape_of regions x) k, cover-more regions (join s (shape_of regions x)) l k)

pub covers-each : (regions : ℕ) (s : Shape) (l : List Set) → All (λ x. (k : ℕ) → get_or (shape_of regions x) k 0 ≤ get_or (cover_from regions s l) k 0) l
unfolding cover_from
covers-each regions s [] = tt
covers-each regions s (x ∷ l) = (
  λ k. omega (arith, join-at s (shape_of regions x) k, cover-more regions (join s (shape_of regions x)) l k),
  covers-each regions (join s (shape_of regions x)) l,
)
