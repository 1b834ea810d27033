-- What lent words hold of groups in the table of shapes, and what one more set leaves there. Assumes nothing.
use Rattle.std.specs.Prelude.{◌≡◌, true, List, [], ◌∷◌, ℕ, ◌+◌, ◌*◌, ◌≤◌, ◌<◌, length, get_or, set, MatchOption}
use Rattle.std.specs.declared.option.Option.{Option}
use Rattle.laws.specs.Every.{All, EachTwo}
use Rattle.laws.specs.LentRange.{Only}
use Rattle.shapes.specs.Shape.{cost_of_row}
use Rattle.shapes.specs.Lent.{Narrow}
use Rattle.sets.specs.Ids.{place}
use Rattle.sets.specs.Lent.{entries_at, count_of, set_of, Stored, Held, sets_in}
use Rattle.groups.specs.Groups.{Before, shape_of, with_shape, groups_of}
use Rattle.table.specs.declared.Shapes.{Shapes}
use Rattle.table.specs.LentTable.{shape_in, slot_in, groups_in, SlotFits, InsertedAt}

-- the parts of the table stand one behind the other
pub record Laid (t : Shapes) (w : List ℕ) : Type 0 where
  pub slots-to : t.slots + (t.room + 1) * t.regions ≤ t.order
  pub order-to : t.order + t.room ≤ t.counts
  pub counts-to : t.counts + 2 * t.room ≤ length w
  pub costed : t.costed ≡ true
  pub few : t.room ≤ 65536
  pub narrow : t.regions ≤ 65536

-- m groups stand in the table, in their order, in the first m slots, with the row costs of these
pub record Table (t : Shapes) (m : ℕ) (w : List ℕ) : Type 0 where
  pub laid : Laid t w
  pub fits : m ≤ t.room
  pub below : (i : ℕ) → i < m → slot_in t i w < m
  pub ordered : EachTwo Before (groups_in t m w)
  pub narrow : All (λ g. Narrow g.shape) (groups_in t m w)
  pub costs : (s : ℕ) → s < m → get_or w (t.counts + t.room + s) 0 ≡ cost_of_row (shape_in t s w)

-- one more set in group i
pub record JoinFit (t : Shapes) (i kind : ℕ) (w : List ℕ) : Type 0 where
  pub place : t.order + i < length w
  pub count : t.counts + slot_in t i w < length w
  pub small : get_or w (t.counts + slot_in t i w) 0 < 4294967295
  pub kind-in : kind < length w

pub record JoinedIn (t : Shapes) (i kind : ℕ) (old new : List ℕ) : Type 0 where
  pub is : new ≡ set (set old (t.counts + slot_in t i old) (get_or old (t.counts + slot_in t i old) 0 + 1)) kind (slot_in t i old)

-- a new group
pub record NewFit (t : Shapes) (m i kind : ℕ) (w : List ℕ) : Type 0 where
  pub most : i ≤ m
  pub place : t.order + m < length w
  pub slot : SlotFits t m w
  pub cost : t.counts + t.room + m < length w
  pub few : m < 4294967296
  pub kind-in : kind < length w

pub record NewIn (t : Shapes) (m i kind : ℕ) (old new : List ℕ) : Type 0 where
  pub between : List ℕ
  pub inserted : InsertedAt t.order m i m old between
  pub is : new ≡ set (set (set between (t.counts + m) 1) (t.counts + t.room + m) (cost_of_row (shape_in t m old))) kind m

-- a set of the shape in slot m
pub record AddFit (t : Shapes) (m kind : ℕ) (w : List ℕ) : Type 0 where
  pub table : Table t m w
  pub small : (i : ℕ) → i < m → get_or w (t.counts + slot_in t i w) 0 < 4294967295
  pub sought : Narrow (shape_in t m w)
  pub kind-to : kind < t.slots

-- the table has r groups now, one more set counted
pub record AddedOne (t : Shapes) (m kind : ℕ) (old new : List ℕ) (r : ℕ) : Type 0 where
  pub only : Only ((kind, 1) ∷ (t.order, t.room) ∷ (t.counts, 2 * t.room) ∷ []) old new
  pub table : Table t r new
  pub groups : groups_in t r new ≡ with_shape (groups_in t m old) (shape_in t m old)
  pub kind-below : get_or new kind 0 < r
  pub kind-shape : shape_in t (get_or new kind 0) new ≡ shape_in t m old

-- there is no room for one more group
pub record AddedNone (t : Shapes) (m : ℕ) (old new : List ℕ) : Type 0 where
  pub same : new ≡ old
  pub full : t.room < length (with_shape (groups_in t m old) (shape_in t m old))

abbrev pub AddedIn : Shapes → ℕ → ℕ → List ℕ → List ℕ → Option ℕ → Type 0
AddedIn t m kind old new r = MatchOption r (AddedNone t m old new) (AddedOne t m kind old new)

-- the same of set x
pub record SetFit (t : Shapes) (index x m kind : ℕ) (w : List ℕ) : Type 0 where
  pub table : Table t m w
  pub small : (i : ℕ) → i < m → get_or w (t.counts + slot_in t i w) 0 < 4294967295
  pub kind-to : kind < t.slots
  pub stored : Stored w index x
  pub before : entries_at index x w + 2 * count_of index x w ≤ t.slots

pub record SetOne (t : Shapes) (index x m kind : ℕ) (old new : List ℕ) (r : ℕ) : Type 0 where
  pub only : Only ((kind, 1) ∷ (t.slots, (t.room + 1) * t.regions) ∷ (t.order, t.room) ∷ (t.counts, 2 * t.room) ∷ []) old new
  pub table : Table t r new
  pub groups : groups_in t r new ≡ with_shape (groups_in t m old) (shape_of t.regions (set_of index x old))
  pub kept : (s : ℕ) → s < m → shape_in t s new ≡ shape_in t s old
  pub kind-below : get_or new kind 0 < r
  pub kind-shape : shape_in t (get_or new kind 0) new ≡ shape_of t.regions (set_of index x old)

pub record SetNone (t : Shapes) (index x m : ℕ) (old new : List ℕ) : Type 0 where
  pub only : Only ((t.slots, (t.room + 1) * t.regions) ∷ []) old new
  pub full : t.room < length (with_shape (groups_in t m old) (shape_of t.regions (set_of index x old)))

abbrev pub AddedSet : Shapes → ℕ → ℕ → ℕ → ℕ → List ℕ → List ℕ → Option ℕ → Type 0
AddedSet t index x m kind old new r = MatchOption r (SetNone t index x m old new) (SetOne t index x m kind old new)

-- n held sets with their firsts, and the table behind them
pub record GroupFit (t : Shapes) (index n first kinds : ℕ) (w : List ℕ) : Type 0 where
  pub end : ℕ
  pub held : Held w index n t.regions end
  pub behind : end ≤ first
  pub first_to : first + n ≤ kinds
  pub kinds-to : kinds + n ≤ t.slots
  pub laid : Laid t w
  pub few : n < 4294967296
  pub firsts : (k : ℕ) → k < n → get_or w (first + k) 0 ≡ place (set_of index k w) (sets_in index n w)

-- The groups of the sets stand in the table, and each set knows the slot of its shape.
pub record GroupedInto (t : Shapes) (index n kinds : ℕ) (old new : List ℕ) (r : ℕ) : Type 0 where
  pub table : Table t r new
  pub groups : groups_in t r new ≡ groups_of t.regions (sets_in index n old)
  pub kind-below : (k : ℕ) → k < n → get_or new (kinds + k) 0 < r
  pub kind-shape : (k : ℕ) → k < n → shape_in t (get_or new (kinds + k) 0) new ≡ shape_of t.regions (set_of index k old)

-- what may have changed, for either answer
abbrev pub grouped : Shapes → ℕ → ℕ → List (ℕ × ℕ)
grouped t n kinds = (kinds, n) ∷ (t.slots, (t.room + 1) * t.regions) ∷ (t.order, t.room) ∷ (t.counts, 2 * t.room) ∷ []

abbrev pub Result : Shapes → ℕ → ℕ → ℕ → List ℕ → List ℕ → Option ℕ → Type 0
Result t index n kinds old new r = MatchOption r (t.room < length (groups_of t.regions (sets_in index n old))) (GroupedInto t index n kinds old new)

pub record GroupedAt (t : Shapes) (index n first kinds : ℕ) (old new : List ℕ) (r : Option ℕ) : Type 0 where
  pub only : Only (grouped t n kinds) old new
  pub result : Result t index n kinds old new r
