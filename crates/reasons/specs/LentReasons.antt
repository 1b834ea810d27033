-- What is asked of lent words where final groups are looked at. Assumes nothing.
use Rattle.std.specs.Prelude.{List, map, ℕ, ◌+◌, ◌*◌, ◌≤◌, ◌<◌, length, get_or}
use Rattle.laws.specs.Every.{All}
use Rattle.laws.specs.LentRange.{seg}
use Rattle.shapes.specs.Lent.{Narrow}
use Rattle.store.specs.Placing.{Final}
use Rattle.store.specs.Lent.{finals_at}
use Rattle.encoder.specs.Packed.{Packed}
use Rattle.encoder.specs.Lent.{PackedAt, group_at, relabel}
use Rattle.encoder.specs.declared.places.Places.{Places}
use Rattle.encoder.specs.declared.encoded.Encoded.{Encoded}
use Rattle.reasons.specs.Why.{home_in}

-- the id of a set
abbrev pub label : Places → List ℕ → ℕ → ℕ
label p w s = get_or (seg p.ids p.sets w) s 0

-- where the shape of group g stands, where its rows do, and how many
abbrev pub shape_spot : Places → List ℕ → ℕ → ℕ
shape_spot p w g = get_or w (group_at p g) 0

abbrev pub rows_spot : Places → List ℕ → ℕ → ℕ
rows_spot p w g = get_or w (group_at p g + 1) 0

abbrev pub row_count : Places → List ℕ → ℕ → ℕ
row_count p w g = get_or w (group_at p g + 2) 0

-- the ids of n rows, each the number of a set
unfoldable pub ids_at : (ids rows n : ℕ) → List ℕ → List ℕ
ids_at ids rows n w = map (λ s. get_or w (ids + s) 0) (seg rows n w)

-- they lie in w
pub record AmongFit (ids rows n : ℕ) (w : List ℕ) : Type 0 where
  pub rows-to : rows + n ≤ length w
  pub sets-in : All (λ s. ids + s < length w) (seg rows n w)

-- the ids of its rows
unfoldable pub ids_in : Places → List ℕ → ℕ → List ℕ
ids_in p w g = map (label p w) (seg (rows_spot p w g) (row_count p w g) w)

unfoldable pub finals_in : Places → ℕ → List ℕ → List Final
finals_in p count w = relabel (label p w) (finals_at p.regions p.finals count w)

-- its rows are numbers of sets, and all lies in w
pub record RowsIn (p : Places) (g : ℕ) (w : List ℕ) : Type 0 where
  pub group-to : group_at p g + 3 ≤ length w
  pub ids-to : p.ids + p.sets ≤ length w
  pub rows-to : rows_spot p w g + row_count p w g ≤ length w
  pub numbers : All (λ x. x < p.sets) (seg (rows_spot p w g) (row_count p w g) w)

pub record GroupsIn (p : Places) (count : ℕ) (w : List ℕ) : Type 0 where
  pub groups-to : p.finals + 3 * count ≤ length w
  pub each : (g : ℕ) → g < count → RowsIn p g w

-- two narrow shapes in lent words, and how many sets share them
pub record ShapesIn (a b regions n : ℕ) (w : List ℕ) : Type 0 where
  pub first_to : a + regions ≤ length w
  pub second-to : b + regions ≤ length w
  pub first-narrow : Narrow (seg a regions w)
  pub second-narrow : Narrow (seg b regions w)
  pub few : n < 4294967296

pub record CostsIn (p : Places) (count a b : ℕ) (w : List ℕ) : Type 0 where
  pub groups : GroupsIn p count w
  pub first-there : a < count
  pub second-there : b < count
  pub shapes-to : (g : ℕ) → g < count → shape_spot p w g + p.regions ≤ length w
  pub narrow : (g : ℕ) → g < count → Narrow (seg (shape_spot p w g) p.regions w)
  pub few : (g : ℕ) → g < count → row_count p w g < 2147483648

-- sets are packed in work, their shapes are narrow, and both ids have a row
pub record ReasonFit (p : Places) (e : Encoded) (first second : ℕ) (w : List ℕ) : Type 0 where
  pub packed-as : Packed
  pub packed : PackedAt packed-as p e w
  pub narrow : (g : ℕ) → g < e.count → Narrow (seg (shape_spot p w g) p.regions w)
  pub first-there : home_in first packed-as.finals < e.count
  pub second-there : home_in second packed-as.finals < e.count
