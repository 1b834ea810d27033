-- The groups of the rule have counts of sets, the final groups have ids: they are the same numbers, so the modelled
-- size is that of the groups that are written (RULES M9). Assumes nothing.
use Rattle.std.specs.Prelude.{◌≡◌, List, [], ◌∷◌, ℕ, ◌≤◌, ◌<◌, length, get_or, eqb}
use Rattle.laws.specs.Every.{All, EachTwo}
use Rattle.laws.specs.Bag.{weigh}
use Rattle.laws.specs.Bounded.{up_to}
use Rattle.laws.specs.Sorting.{keep}
use Rattle.shapes.specs.Shape.{Shape, join}
use Rattle.shapes.specs.Group.{Group, group_cost, max_items}
use Rattle.sets.specs.Set.{Set}
use Rattle.sets.specs.Ids.{distinct}
use Rattle.groups.specs.Groups.{shape_of, groups_of}
use Rattle.rule.specs.Model.{merged}
use Rattle.store.specs.Placing.{Final, runs_of}
use Rattle.encoder.specs.Packed.{number_of, final_of, shared}

-- what a final group costs by its own ids
abbrev pub cost_of : Final → ℕ
cost_of f = group_cost (record { shape = f.shape; sets = length f.ids })

abbrev pub group_at : List Group → ℕ → Group
group_at groups i = get_or groups i (record { shape = []; sets = 0 })

-- the shapes of some starting groups, joined
unfoldable pub shapes_joined : List Group → List ℕ → Shape
shapes_joined xs [] = []
shapes_joined xs (i ∷ l) = join (group_at xs i).shape (shapes_joined xs l)

-- the number of the starting group that id x's set is in
abbrev pub starting_of : ℕ → List Set → ℕ → ℕ
starting_of regions jobs x = number_of (shape_of regions (get_or (distinct jobs) x [])) (groups_of regions jobs)

-- of the sets of a job, in mode 0
pub record Sizes (regions : ℕ) (jobs : List Set) : Type 0 where
  -- no two starting groups have one shape
  pub starting-apart : EachTwo (λ g h. g.shape ≡ h.shape → ⊥) (groups_of regions jobs)
  -- the group of an id's set is the one that has the set's shape
  pub starting-of : (x : ℕ) → x < length (distinct jobs)
      → (starting_of regions jobs x < length (groups_of regions jobs)) × ((group_at (groups_of regions jobs) (starting_of regions jobs x)).shape ≡ shape_of regions (get_or (distinct jobs) x []))
  -- and each has as many sets as there are such ids
  pub starting-count : (i : ℕ) → i < length (groups_of regions jobs)
      → length (keep (λ x. eqb (starting_of regions jobs x) i) (up_to (length (distinct jobs)))) ≡ (group_at (groups_of regions jobs) i).sets
  -- a living group counts as many sets as its final group has ids
  pub living-count : All (λ g. length (final_of regions (groups_of regions jobs) (distinct jobs) g).ids ≡ g.group.sets) (merged (groups_of regions jobs)).living
  -- so no final group is empty
  pub finals-some : All (λ f. 0 < length f.ids) (shared regions jobs).finals
  -- the modelled size after merging is what the final groups cost, each by its own ids
  pub after_is : (shared regions jobs).after ≡ weigh cost_of (shared regions jobs).finals
  -- a final group that one subtable holds is not cut
  pub one-run : (f : Final) → length f.ids ≤ max_items → runs_of f ≡ f ∷ []
