-- What the lent words of a merge hold: the tables, and a group in its slot. Assumes nothing.
use Rattle.std.specs.Prelude.{◌≡◌, List, [], ◌∷◌, ℕ, ◌+◌, ◌-◌, ◌*◌, ◌≤◌, ◌<◌, length, get_or}
use Rattle.laws.specs.LentRange.{Only, seg}
use Rattle.laws.specs.Bounded.{tabulate}
use Rattle.shapes.specs.Shape.{Shape, join}
use Rattle.shapes.specs.Group.{Group, joined}
use Rattle.shapes.specs.Lent.{Narrow, Measured}
use Rattle.planes.specs.Plane.{IsCost, plane_length, plane_words}
use Rattle.planes.specs.Lent.{PlanesAt}
use Rattle.limits.specs.Limits.{max_shapes}
use Rattle.slots.specs.declared.tables.MergeTables.{MergeTables}

-- The tables lie one behind the other in n words.
pub record Laid (t : MergeTables) (n : ℕ) : Type 0 where
  pub groups-few : t.groups ≤ max_shapes
  pub regions-few : t.regions ≤ 65536
  pub slots_end : t.slots + t.groups * t.regions ≤ t.order
  pub order-end : t.order + t.groups ≤ t.counts
  pub counts_end : t.counts + t.groups ≤ t.place
  pub place_end : t.place + 2 * t.groups ≤ t.costs
  pub costs-end : t.costs + t.groups ≤ t.columns
  pub columns-end : t.columns + t.groups ≤ t.into
  pub into-end : t.into + 2 * t.groups ≤ t.log
  pub log-end : t.log + 3 * (t.groups - 1) ≤ t.planes
  pub planes-end : t.planes + t.groups * plane_words t.regions ≤ n

-- the shape and the group in slot s
unfoldable pub shape_in : MergeTables → List ℕ → ℕ → List ℕ
shape_in t w s = seg (t.slots + s * t.regions) t.regions w

unfoldable pub group_in : MergeTables → List ℕ → ℕ → Group
group_in t w s = record { shape = shape_in t w s; sets = get_or w (t.counts + s) 0 }

-- the starting groups, in order
unfoldable pub starting : MergeTables → List ℕ → List Group
starting t w = tabulate 0 t.groups (λ i. group_in t w (get_or w (t.order + i) 0))

-- where the planes of slot s start, and that they are those of a shape
abbrev pub plane_at : MergeTables → ℕ → ℕ
plane_at t s = t.planes + s * plane_words t.regions

abbrev pub Planed : MergeTables → List ℕ → ℕ → Shape → Type 0
Planed t w s x = PlanesAt w (plane_at t s) (plane_length t.regions) x

-- each slot holds a narrow shape, whose widths planes can say
pub record Shaped (t : MergeTables) (w : List ℕ) : Type 0 where
  pub laid : Laid t (length w)
  pub narrow : (s : ℕ) → s < t.groups → Narrow (shape_in t w s)
  pub costs : (s : ℕ) → s < t.groups → (k : ℕ) → IsCost (get_or (shape_in t w s) k 0)

-- what it costs is known, and its planes stand there
pub record Sound (t : MergeTables) (w : List ℕ) : Type 0 where
  pub shaped : Shaped t w
  pub measured : (s : ℕ) → s < t.groups → Measured (shape_in t w s) (get_or w (t.costs + s) 0) (get_or w (t.columns + s) 0)
  pub planed : (s : ℕ) → s < t.groups → Planed t w s (shape_in t w s)

-- the numbers of slot s
pub record CostsAs (t : MergeTables) (w : List ℕ) (s row cols sets : ℕ) : Type 0 where
  pub row_is : row ≡ get_or w (t.costs + s) 0
  pub columns-is : cols ≡ get_or w (t.columns + s) 0
  pub sets-is : sets ≡ get_or w (t.counts + s) 0
  pub sets-few : sets < 4294967296

-- the starting groups lie in slots of their own
pub record Dealt (t : MergeTables) (w : List ℕ) : Type 0 where
  pub within : (i : ℕ) → i < t.groups → get_or w (t.order + i) 0 < t.groups
  pub apart : (i j : ℕ) → i < j → j < t.groups → get_or w (t.order + i) 0 ≡ get_or w (t.order + j) 0 → ⊥

-- what the shape in slot s costs was noted, by its planes
pub record NotedIn (t : MergeTables) (s : ℕ) (old new : List ℕ) : Type 0 where
  pub only : Only ((t.costs + s, 1) ∷ (t.columns + s, 1) ∷ []) old new
  pub is : (x : Shape) → Planed t old s x → Measured x (get_or new (t.costs + s) 0) (get_or new (t.columns + s) 0)

-- slot s was measured
pub record MeasuredIn (t : MergeTables) (s : ℕ) (old new : List ℕ) : Type 0 where
  pub only : Only ((t.costs + s, 1) ∷ (t.columns + s, 1) ∷ (plane_at t s, plane_words t.regions) ∷ []) old new
  pub is : Measured (shape_in t old s) (get_or new (t.costs + s) 0) (get_or new (t.columns + s) 0)
  pub planed : Planed t new s (shape_in t old s)

-- every slot was
pub record MeasuredAll (t : MergeTables) (old new : List ℕ) : Type 0 where
  pub only : Only ((t.costs, t.groups) ∷ (t.columns, t.groups) ∷ (t.planes, t.groups * plane_words t.regions) ∷ []) old new
  pub sound : Sound t new

-- the shape in slot a is that of slots a and b joined
pub record ShapesJoined (t : MergeTables) (a b : ℕ) (old new : List ℕ) : Type 0 where
  pub only : Only ((t.slots + a * t.regions, t.regions) ∷ (plane_at t a, plane_words t.regions) ∷ []) old new
  pub is : shape_in t new a ≡ join (shape_in t old a) (shape_in t old b)
  pub planed : Planed t new a (join (shape_in t old a) (shape_in t old b))

-- slot a holds what the groups of slots a and b become
pub record JoinedIn (t : MergeTables) (a b : ℕ) (old new : List ℕ) : Type 0 where
  pub only : Only ((t.slots + a * t.regions, t.regions) ∷ (t.counts + a, 1) ∷ (t.costs + a, 1) ∷ (t.columns + a, 1) ∷ (plane_at t a, plane_words t.regions) ∷ []) old new
  pub sound : Sound t new
  pub is : group_in t new a ≡ joined (group_in t old a) (group_in t old b)
