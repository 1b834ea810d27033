-- What lent words hold of the table of distinct shapes (`Shapes` of `src/lib.rt` says where it lies). Assumes nothing.
use Rattle.std.specs.Prelude.{◌≡◌, true, List, [], ◌∷◌, ℕ, ◌+◌, ◌-◌, ◌*◌, ◌≤◌, ◌<◌, length, get_or, MatchResult}
use Rattle.std.specs.declared.result.Result.{Result}
use Rattle.std.specs.declared.cmp.Ordering.TheVariants.{Less, Greater}
use Rattle.laws.specs.Bounded.{tabulate}
use Rattle.laws.specs.LentRange.{Only, seg}
use Rattle.shapes.specs.Shape.{Shape, cost_of_row}
use Rattle.shapes.specs.Order.{order}
use Rattle.shapes.specs.Group.{Group}
use Rattle.shapes.specs.Lent.{Narrow}
use Rattle.table.specs.declared.Shapes.{Shapes}

-- the shape in slot s
unfoldable pub shape_in : Shapes → ℕ → List ℕ → Shape
shape_in t s w = seg (t.slots + s * t.regions) t.regions w

-- the slot of group i
abbrev pub slot_in : Shapes → ℕ → List ℕ → ℕ
slot_in t i w = get_or w (t.order + i) 0

unfoldable pub group_in : Shapes → List ℕ → ℕ → Group
group_in t w i = record { shape = shape_in t (slot_in t i w) w; sets = get_or w (t.counts + slot_in t i w) 0 }

-- the first m groups
unfoldable pub groups_in : Shapes → ℕ → List ℕ → List Group
groups_in t m w = tabulate 0 m (group_in t w)

-- slot s lies in w, and its shape is narrow
pub record SlotFits (t : Shapes) (s : ℕ) (w : List ℕ) : Type 0 where
  pub room : t.slots + s * t.regions + t.regions ≤ length w
  pub narrow : Narrow (shape_in t s w)

-- the row cost of slot s is known, where the table is costed
pub record Costed (t : Shapes) (s : ℕ) (w : List ℕ) : Type 0 where
  pub room : t.costed ≡ true → t.counts + t.room + s < length w
  pub is : t.costed ≡ true → get_or w (t.counts + t.room + s) 0 ≡ cost_of_row (shape_in t s w)

-- the first n groups stand in their order, and slot s holds a shape to look for
pub record Searchable (t : Shapes) (n s : ℕ) (w : List ℕ) : Type 0 where
  pub room : t.order + n ≤ length w
  pub sought : SlotFits t s w
  pub slot : (i : ℕ) → i < n → SlotFits t (slot_in t i w) w
  pub cost : (i : ℕ) → i < n → Costed t (slot_in t i w) w
  pub ordered : (i j : ℕ) → i < j → j < n → order (shape_in t (slot_in t i w) w) (shape_in t (slot_in t j w) w) ≡ Less

pub record FoundAt (t : Shapes) (n s : ℕ) (w : List ℕ) (i : ℕ) : Type 0 where
  pub below : i < n
  pub same : shape_in t s w ≡ shape_in t (slot_in t i w) w

pub record FoundGap (t : Shapes) (n s : ℕ) (w : List ℕ) (i : ℕ) : Type 0 where
  pub most : i ≤ n
  pub behind : (k : ℕ) → k < i → order (shape_in t s w) (shape_in t (slot_in t k w) w) ≡ Greater
  pub ahead : (k : ℕ) → i ≤ k → k < n → order (shape_in t s w) (shape_in t (slot_in t k w) w) ≡ Less

-- it is at a number, or it is missing
abbrev pub FoundIn : Shapes → ℕ → ℕ → List ℕ → Result ℕ ℕ → Type 0
FoundIn t n s w r = MatchResult r (FoundAt t n s w) (FoundGap t n s w)

-- v is the i-th word, and those behind it moved up
pub record InsertedIn (i v : ℕ) (old new : List ℕ) : Type 0 where
  pub long : length new ≡ length old
  pub front : (k : ℕ) → k < i → get_or new k 0 ≡ get_or old k 0
  pub here : get_or new i 0 ≡ v
  pub back : (k : ℕ) → i < k → k < length new → get_or new k 0 ≡ get_or old (k - 1) 0

-- v is the i-th of the words from `at` on, and those behind it moved up
pub record InsertedAt (at n i v : ℕ) (old new : List ℕ) : Type 0 where
  pub only : Only ((at, n + 1) ∷ []) old new
  pub front : (k : ℕ) → k < i → get_or new (at + k) 0 ≡ get_or old (at + k) 0
  pub here : get_or new (at + i) 0 ≡ v
  pub back : (k : ℕ) → i < k → k ≤ n → get_or new (at + k) 0 ≡ get_or old (at + (k - 1)) 0
