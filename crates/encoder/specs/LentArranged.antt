-- What the private functions of mode 0 ask of lent words, and what they leave. Assumes nothing.
use Rattle.std.specs.Prelude.{◌≡◌, Bool, true, false, ◌&&◌, List, [], ◌∷◌, ℕ, ◌+◌, ◌-◌, ◌*◌, ◌≤◌, ◌<◌, eqb, length, get_or, MatchOption}
use Rattle.std.specs.declared.option.Option.{Option}
use Rattle.laws.specs.Every.{All}
use Rattle.laws.specs.Bag.{sum}
use Rattle.laws.specs.Bounded.{up_to}
use Rattle.laws.specs.LentRange.{Only, seg}
use Rattle.laws.specs.Sorting.{sorted, keep}
use Rattle.sets.specs.Ids.{place, shared_ids, distinct}
use Rattle.sets.specs.Lent.{set_of, sets_in, is_first_of_like, at_most, Held}
use Rattle.groups.specs.Groups.{groups_of, max_shapes}
use Rattle.grouping.specs.LentGroups.{GroupedInto}
use Rattle.table.specs.declared.Shapes.{Shapes}
use Rattle.slots.specs.declared.tables.MergeTables.{MergeTables}
use Rattle.merging.specs.declared.optimizing.Merged.{Merged}
use Rattle.merging.specs.LentOptimized.{Optimized}
use Rattle.ordering.specs.LentLiving.{no_later, living_in, LivingFit}
use Rattle.encoder.specs.Packed.{shared}
use Rattle.encoder.specs.LentPlaces.{Laid}
use Rattle.encoder.specs.Lent.{group_at, PackedAt}
use Rattle.encoder.specs.declared.places.Places.{Places}
use Rattle.encoder.specs.declared.encoded.Encoded.{Encoded}
use Rattle.encoder.specs.declared.encoded.Gathered.{Gathered}

-- the table of shapes, their row costs where merging has its places later; and the same slots with the living in their order
abbrev pub shapes_at : Places → Shapes
shapes_at p = record { regions = p.regions; room = p.room; slots = p.slots; order = p.order; counts = p.counts; costed = true }

abbrev pub living_at : Places → Shapes
living_at p = record { regions = p.regions; room = p.room; slots = p.slots; order = p.living; counts = p.counts; costed = false }

-- the slots of the living of k numbers, in the order of their shapes
unfoldable pub living_line : Places → ℕ → List ℕ → List ℕ
living_line p k w = sorted (no_later (living_at p) w) (living_in w p.place k)

pub record LineFit (p : Places) (groups k : ℕ) (w : List ℕ) : Type 0 where
  pub laid : Laid p (length w)
  pub few : groups ≤ p.room
  pub living : LivingFit (living_at p) p.place k w
  pub living-few : length (living_line p k w) ≤ groups
  pub below : (q : ℕ) → q < length (living_line p k w) → get_or (living_line p k w) q 0 < groups
  pub apart : (q r : ℕ) → q < r → r < length (living_line p k w) → get_or (living_line p k w) q 0 ≡ get_or (living_line p k w) r 0 → ⊥

pub record LinedUp (p : Places) (groups k : ℕ) (old new : List ℕ) (count : ℕ) : Type 0 where
  pub only : Only ((p.living, p.room) ∷ (p.spots, p.room) ∷ []) old new
  pub count-is : count ≡ length (living_line p k old)
  pub at : (q : ℕ) → q < count → get_or new (p.living + q) 0 ≡ get_or (living_line p k old) q 0
  pub spot : (q : ℕ) → q < count → get_or new (p.spots + get_or (living_line p k old) q 0) 0 ≡ q

-- the slot of the living group that starting group i went into
abbrev pub heir_slot : Places → List ℕ → ℕ → ℕ
heir_slot p w i = get_or w (p.place + get_or w (p.into + i) 0) 0 - 1

-- starting groups lie in slots of their own, each has an heir in the line, and each set has a slot
pub record ArrangeFit (p : Places) (groups k : ℕ) (w : List ℕ) : Type 0 where
  pub line : LineFit p groups k w
  pub from-below : (i : ℕ) → i < groups → get_or w (p.order + i) 0 < groups
  pub from-apart : (i j : ℕ) → i < j → j < groups → get_or w (p.order + i) 0 ≡ get_or w (p.order + j) 0 → ⊥
  pub heir-below : (i : ℕ) → i < groups → get_or w (p.into + i) 0 < 2 * p.room
  pub heir-lives : (i : ℕ) → i < groups → 0 < get_or w (p.place + get_or w (p.into + i) 0) 0
  pub heir-at : (i : ℕ) → i < groups → (q : ℕ) × (q < length (living_line p k w)) × (get_or (living_line p k w) q 0 ≡ heir_slot p w i)
  pub number : (q : ℕ) → q < p.sets → get_or w (p.line + q) 0 < p.sets
  pub kind : (x : ℕ) → x < p.sets → get_or w (p.kinds + x) 0 < groups

-- starting groups lie in slots of their own, and each one's heir has its place
pub record HomedFit (p : Places) (groups : ℕ) (w : List ℕ) : Type 0 where
  pub laid : Laid p (length w)
  pub few : groups ≤ p.room
  pub below : (i : ℕ) → i < groups → get_or w (p.order + i) 0 < groups
  pub apart : (i j : ℕ) → i < j → j < groups → get_or w (p.order + i) 0 ≡ get_or w (p.order + j) 0 → ⊥
  pub heir : (i : ℕ) → i < groups → get_or w (p.into + i) 0 < 2 * p.room
  pub lives : (i : ℕ) → i < groups → 0 < get_or w (p.place + get_or w (p.into + i) 0) 0
  pub slot : (i : ℕ) → i < groups → heir_slot p w i < groups

pub record Homed (p : Places) (groups : ℕ) (old new : List ℕ) : Type 0 where
  pub only : Only ((p.homes, groups) ∷ []) old new
  pub at : (i : ℕ) → i < groups → get_or new (p.homes + get_or old (p.order + i) 0) 0 ≡ get_or old (p.spots + heir_slot p old i) 0

-- the set x goes to final group q: it is the first of its like, and its slot has its home there
abbrev pub goes : Places → List ℕ → ℕ → ℕ → Bool
goes p w q x = eqb (get_or w (p.first + x) 0) x && eqb (get_or w (p.homes + get_or w (p.kinds + x) 0) 0) q

-- each final group has a slot, each set has one, and each slot has a home
pub record SharedFit (p : Places) (groups count : ℕ) (w : List ℕ) : Type 0 where
  pub laid : Laid p (length w)
  pub few : groups ≤ p.room
  pub count-few : count ≤ groups
  pub slot : (q : ℕ) → q < count → get_or w (p.living + q) 0 < groups
  pub number : (q : ℕ) → q < p.sets → get_or w (p.line + q) 0 < p.sets
  pub kind : (x : ℕ) → x < p.sets → get_or w (p.kinds + x) 0 < groups
  pub home : (s : ℕ) → s < groups → get_or w (p.homes + s) 0 < count

pub record SharedOut (p : Places) (count : ℕ) (old new : List ℕ) : Type 0 where
  pub only : Only ((p.finals, 3 * count) ∷ (p.rows, p.sets) ∷ []) old new
  pub shape : (q : ℕ) → q < count → get_or new (group_at p q) 0 ≡ p.slots + get_or old (p.living + q) 0 * p.regions
  pub rows_in : (q : ℕ) → q < count → (p.rows ≤ get_or new (group_at p q + 1) 0) × (get_or new (group_at p q + 1) 0 + get_or new (group_at p q + 2) 0 ≤ p.rows + p.sets)
  pub rows_few : sum (λ q. get_or new (group_at p q + 2) 0) count ≤ p.sets
  pub rows : (q : ℕ) → q < count → seg (get_or new (group_at p q + 1) 0) (get_or new (group_at p q + 2) 0) new ≡ keep (goes p old q) (seg p.line p.sets old)

-- The final groups stand in the order of the line, and each one's rows are the sets, in their order and of equal ones the first, whose slot has
-- its home there. The home of each slot is left in work.
pub record Arranged (p : Places) (groups k : ℕ) (old new : List ℕ) (count : ℕ) : Type 0 where
  pub only : Only ((p.homes, p.room) ∷ (p.living, p.room) ∷ (p.finals, 3 * p.room) ∷ (p.rows, p.sets) ∷ []) old new
  pub count-is : count ≡ length (living_line p k old)
  pub home : ℕ → ℕ
  pub home-is : (i q : ℕ) → i < groups → q < count → get_or (living_line p k old) q 0 ≡ heir_slot p old i → home (get_or old (p.order + i) 0) ≡ q
  pub homes-are : (s : ℕ) → s < groups → get_or new (p.homes + s) 0 ≡ home s
  pub shape : (q : ℕ) → q < count → get_or new (group_at p q) 0 ≡ p.slots + get_or (living_line p k old) q 0 * p.regions
  pub rows_in : (q : ℕ) → q < count → (p.rows ≤ get_or new (group_at p q + 1) 0) × (get_or new (group_at p q + 1) 0 + get_or new (group_at p q + 2) 0 ≤ p.rows + p.sets)
  pub rows_few : sum (λ q. get_or new (group_at p q + 2) 0) count ≤ p.sets
  pub rows : (q : ℕ) → q < count → seg (get_or new (group_at p q + 1) 0) (get_or new (group_at p q + 2) 0) new
      ≡ keep (λ x. eqb (get_or old (p.first + x) 0) x && eqb (home (get_or old (p.kinds + x) 0)) q) (seg p.line p.sets old)

-- the sets are numbered and grouped, and the tables of merging are free
pub record JoinFit (p : Places) (groups ids : ℕ) (w : List ℕ) : Type 0 where
  pub laid : Laid p (length w)
  pub held : Held w 0 p.sets p.regions p.line
  pub line_low : All (λ x. x < p.sets) (seg p.line p.sets w)
  pub line-firsts : keep (is_first_of_like 0 p.sets w) (seg p.line p.sets w) ≡ keep (is_first_of_like 0 p.sets w) (sorted (at_most w 0) (up_to p.sets))
  pub firsts : (x : ℕ) → x < p.sets → get_or w (p.first + x) 0 ≡ place (set_of 0 x w) (sets_in 0 p.sets w)
  pub ids-are : seg p.ids p.sets w ≡ shared_ids (sets_in 0 p.sets w)
  pub ids-is : ids ≡ length (distinct (sets_in 0 p.sets w))
  pub grouped : GroupedInto (shapes_at p) 0 p.sets p.kinds w w groups

-- where merging finds so many groups
abbrev pub tables_of : Places → ℕ → MergeTables
tables_of p groups = record {
  regions = p.regions;
  groups = groups;
  slots = p.slots;
  order = p.order;
  counts = p.counts;
  place = p.place;
  costs = p.costs;
  columns = p.columns;
  into = p.into;
  log = p.log;
  planes = p.rows;
}

-- there are too many shapes, or the groups are merging's to join
abbrev pub Gathers : Places → List ℕ → List ℕ → Option Gathered → Type 0
Gathers p old new r = MatchOption r (max_shapes < length (groups_of p.regions (sets_in 0 p.sets old))) (λ g. JoinFit p g.groups g.distinct new)

pub record GatheredAt (p : Places) (old new : List ℕ) (r : Option Gathered) : Type 0 where
  pub only : Only ((p.line, length old) ∷ []) old new
  pub result : Gathers p old new r

-- merging has joined such groups
pub record RegroupFit (p : Places) (groups ids : ℕ) (m : Merged) (w : List ℕ) : Type 0 where
  pub old : List ℕ
  pub fit : JoinFit p groups ids old
  pub joined : Optimized (tables_of p groups) m.merges m.weighed m.before m.after old w

pub record JoinedGroups (p : Places) (old new : List ℕ) (e : Encoded) : Type 0 where
  pub only : Only ((p.line, length old) ∷ []) old new
  pub packed : PackedAt (shared p.regions (sets_in 0 p.sets old)) p e new
