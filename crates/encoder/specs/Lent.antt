-- What lent words hold of sets that are packed: the promises of `src/`, which no reader of docs/RULES.md needs. Assumes
-- nothing.
use Rattle.std.specs.Prelude.{◌≡◌, List, [], ◌∷◌, map, ℕ, ◌+◌, ◌*◌, ◌≤◌, ◌<◌, length, get_or}
use Rattle.laws.specs.Bag.{sum}
use Rattle.laws.specs.Every.{All}
use Rattle.laws.specs.Bounded.{tabulate}
use Rattle.laws.specs.LentRange.{Only, seg}
use Rattle.sets.specs.Lent.{set_of, sets_in, Held}
use Rattle.rule.specs.Told.{words}
use Rattle.store.specs.Placing.{Final}
use Rattle.store.specs.Lent.{finals_at}
use Rattle.limits.specs.Limits.{most_records, max_regions, max_shapes}
use Rattle.encoder.specs.Packed.{Packed, own}
use Rattle.encoder.specs.LentPlaces.{Laid}
use Rattle.encoder.specs.declared.places.Places.{Places}
use Rattle.encoder.specs.declared.encoded.Encoded.{Encoded}

-- n sets are held before the tables
pub record Fit (p : Places) (w : List ℕ) : Type 0 where
  pub laid : Laid p (length w)
  pub held : Held w 0 p.sets p.regions p.line

-- the same groups, with other numbers for their sets
unfoldable pub relabel : (ℕ → ℕ) → List Final → List Final
relabel f gs = map (λ (g : Final). record { shape = g.shape; ids = map f g.ids }) gs

-- where the three words of final group g stand
abbrev pub group_at : Places → ℕ → ℕ
group_at p g = p.finals + 3 * g

-- the three words of a final group: its shape and its rows lie in their tables, and its rows are numbers of sets
pub record FinalIn (p : Places) (w : List ℕ) (g : ℕ) : Type 0 where
  pub shape-to : get_or w (group_at p g) 0 + p.regions ≤ p.rows
  pub rows-from : p.rows ≤ get_or w (group_at p g + 1) 0
  pub rows-to : get_or w (group_at p g + 1) 0 + get_or w (group_at p g + 2) 0 ≤ p.rows + p.sets
  pub numbers : All (λ x. x < p.sets) (seg (get_or w (group_at p g + 1) 0) (get_or w (group_at p g + 2) 0) w)

-- the final group of each of so many starting groups: that of its slot
unfoldable pub origins_in : Places → ℕ → List ℕ → List ℕ
origins_in p groups w = tabulate 0 groups (λ i. get_or w (p.homes + get_or w (p.order + i) 0) 0)

-- What was made of the sets stands in work. A row is the number of a set, the first one of its id.
pub record PackedAt (k : Packed) (p : Places) (e : Encoded) (w : List ℕ) : Type 0 where
  pub held : Held w 0 p.sets p.regions p.line
  pub sets-few : p.sets ≤ most_records
  pub regions-few : p.regions ≤ max_regions
  pub line-to : p.line ≤ p.ids
  pub ids-to : p.ids + p.sets ≤ p.finals
  pub finals-few : e.count ≤ max_shapes
  pub finals-to : p.finals + 3 * e.count ≤ p.rows
  pub rows-to : p.rows + p.sets ≤ length w
  pub log-to : p.log + 3 * e.merges ≤ p.rows
  pub order-to : p.order + e.groups ≤ p.rows
  pub homes-to : (i : ℕ) → i < e.groups → p.homes + get_or w (p.order + i) 0 < p.rows
  pub ids-are : seg p.ids p.sets w ≡ k.ids
  pub sets-are : (x : ℕ) → x < p.sets → get_or k.sets (get_or k.ids x 0) [] ≡ set_of 0 x w
  pub distinct-is : e.distinct ≡ length k.sets
  pub distinct-few : e.distinct ≤ p.sets
  pub finals-in : (g : ℕ) → g < e.count → FinalIn p w g
  pub rows_few : sum (λ g. get_or w (group_at p g + 2) 0) e.count ≤ p.sets
  pub finals-are : relabel (λ x. get_or k.ids x 0) (finals_at p.regions p.finals e.count w) ≡ k.finals
  pub groups-is : e.groups ≡ k.groups
  pub groups-few : e.groups ≤ max_shapes
  pub origins-are : origins_in p e.groups w ≡ k.origins
  pub merges-is : e.merges ≡ length k.log
  pub log-are : seg p.log (3 * e.merges) w ≡ words k.log
  pub weighed-is : e.weighed ≡ k.weighed
  pub before-is : e.before ≡ k.before
  pub after_is : e.after ≡ k.after

-- mode 1
pub record OwnAt (p : Places) (old new : List ℕ) (e : Encoded) : Type 0 where
  pub only : Only ((p.line, length old) ∷ []) old new
  pub result : PackedAt (own p.regions (sets_in 0 p.sets old)) p e new
