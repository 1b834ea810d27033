-- Each width of a starting group's shape is a cost: 0, 1, 2 or 4, which planes of bits can say. Assumes nothing.
use mathlib.Core.List.{List, [], ◌∷◌, map}
use mathlib.Core.Logic.{⊎_elim}
use Prim.Native.Nat.{ℕ, ◌+◌, ◌≤◌, ◌<◌}
use native.Mathlib.Omega.{arith}
use lib.ListN.{get_or, get_or-eq_default}
use Rattle.laws.specs.Every.{All}
use Rattle.laws.specs.Bounded.{tabulate}
use Rattle.laws.specs.Signed.{value}
use Rattle.laws.proofs.Cases.{lt-or-ge}
use Rattle.laws.proofs.BoundedLaws.{length-tabulate, get_or-tabulate}
use Rattle.shapes.specs.declared.width.ColumnBits.{ColumnBits}
use Rattle.shapes.specs.declared.width.ColumnBits.TheVariants.{None, One, Two, Four}
use Rattle.shapes.specs.Width.{width_of, cost_of}
use Rattle.shapes.specs.Shape.{Shape}
use Rattle.shapes.specs.Group.{Group}
use Rattle.planes.specs.Plane.{IsCost}
use Rattle.sets.specs.Set.{Set, word_of}
use Rattle.sets.specs.Ids.{distinct}
use Rattle.groups.specs.Groups.{shape_of, groups_of}
use Rattle.groups.proofs.GroupLaws.{from_all}

width-cost : (b : ColumnBits) → IsCost (cost_of b)
unfolding cost_of
width-cost None = record { most = omega arith; not_three = λ e. omega arith }
width-cost One = record { most = omega arith; not_three = λ e. omega arith }
width-cost Two = record { most = omega arith; not_three = λ e. omega arith }
width-cost Four = record { most = omega arith; not_three = λ e. omega arith }

shape-costs : (regions : ℕ) (s : Set) (k : ℕ) → IsCost (get_or (shape_of regions s) k 0)
unfolding shape_of
shape-costs regions s k = ⊎_elim
    (λ (p : k < regions). rw (get_or-tabulate 0 regions (λ k. cost_of (width_of (value (word_of s k)))) 0 k p) (width-cost (width_of (value (word_of s (0 + k))))))
    (λ (p : regions ≤ k).
    rw (get_or-eq_default (tabulate 0 regions (λ k. cost_of (width_of (value (word_of s k))))) 0 {n = k} (omega (arith, length-tabulate 0 regions (λ k. cost_of (width_of (value (word_of s k)))))))
    (record { most = omega arith; not_three = λ e. omega arith }))
    (lt-or-ge k regions)

all-costs : (regions : ℕ) (l : List Set) → All (λ (s : Shape). (k : ℕ) → IsCost (get_or s k 0)) (map (shape_of regions) l)
all-costs regions [] = tt
all-costs regions (s ∷ l) = (shape-costs regions s, all-costs regions l)

pub groups-costs : (regions : ℕ) (sets : List Set) → All (λ (g : Group). (k : ℕ) → IsCost (get_or g.shape k 0)) (groups_of regions sets)
unfolding groups_of
groups-costs regions sets = from_all (λ (g : Group). (k : ℕ) → IsCost (get_or g.shape k 0)) [] (map (shape_of regions) (distinct sets)) (all-costs regions (distinct sets)) (λ g q. q) tt
