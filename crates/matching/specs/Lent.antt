-- What lent words hold of the regions of a store's list and of those that a job has in use: the promises of `src/`, which no
-- reader of docs/RULES.md needs. Assumes nothing.
use Rattle.std.specs.Prelude.{◌≡◌, List, [], ◌∷◌, ℕ, ◌+◌, ◌-◌, ◌*◌, ◌≤◌, ◌<◌, ltb, length, get_or}
use Rattle.laws.specs.Pick.{pick}
use Rattle.laws.specs.Every.{All}
use Rattle.laws.specs.LentRange.{Only}
use Rattle.sets.specs.Lent.{entries, entries_at, count_of}
use Rattle.limits.specs.Limits.{most_axes, most_records}
use Rattle.said.specs.Records.{region_length, region_from}
use Rattle.said.specs.Sets.{Region, coordinates}
use Rattle.reader.specs.Store.{words}
use Rattle.job_scan.specs.Lent.{as_set}
use Rattle.matching.specs.declared.Sides.{Sides}

-- how many there are, and the words that one takes
abbrev pub total : Sides → ℕ
total t = t.listed + t.uses

-- region x of both by its coordinates, the listed ones first
unfoldable pub side_at : (store job w : List ℕ) → Sides → ℕ → Region
side_at store job w t x =
    pick (ltb x t.listed) (words store (t.list + x * (6 * t.axes)) (3 * t.axes))
    (coordinates t.axes (region_from t.axes job (get_or w (t.used + (x - t.listed)) 0)))

-- where the sets' entries begin, and where for each the first like it stands
abbrev pub body_of : Sides → ℕ
body_of t = t.index + 2 * total t

abbrev pub firsts_of : Sides → ℕ
firsts_of t = t.index + 2 * total t + total t * (6 * t.axes) + total t

-- the words that are scratch
abbrev pub scratch : Sides → ℕ
scratch t = 5 * total t + total t * (6 * t.axes)

pub record SidesFit (store job : List ℕ) (t : Sides) (w : List ℕ) : Type 0 where
  pub some : 0 < t.axes
  pub most : t.axes ≤ most_axes
  pub list-in : t.list + t.listed * (6 * t.axes) ≤ length store
  pub listed-few : t.listed < 65536
  pub uses-few : t.uses ≤ most_records
  pub used-in : (u : ℕ) → u < t.uses → get_or w (t.used + u) 0 * region_length t.axes + region_length t.axes ≤ length job
  pub used-to : t.used + t.uses ≤ t.index
  pub room : t.index + scratch t ≤ length w
  pub few : t.index + scratch t ≤ 4294967295

-- they stand as sets: rows from the index on, entries behind them
pub record Written (store job : List ℕ) (t : Sides) (old new : List ℕ) : Type 0 where
  pub only : Only ((t.index, 2 * total t) ∷ (body_of t, total t * (6 * t.axes)) ∷ []) old new
  pub start : (x : ℕ) → x < total t → entries_at t.index x new ≡ body_of t + x * (6 * t.axes)
  pub count : (x : ℕ) → x < total t → count_of t.index x new ≡ 3 * t.axes
  pub is : (x : ℕ) → x < total t → entries (body_of t + x * (6 * t.axes)) (3 * t.axes) new ≡ as_set 0 (side_at store job old t x)
  pub small : (x : ℕ) → x < total t → All (λ y. y < 65536) (side_at store job old t x)

-- f is the first region that has the coordinates of region x
pub record FirstSide (store job w : List ℕ) (t : Sides) (x f : ℕ) : Type 0 where
  pub not-past : f ≤ x
  pub same : side_at store job w t f ≡ side_at store job w t x
  pub least : (j : ℕ) → j < total t → side_at store job w t j ≡ side_at store job w t x → f ≤ j

pub record Matched (store job : List ℕ) (t : Sides) (old new : List ℕ) : Type 0 where
  pub only : Only ((t.index, scratch t) ∷ []) old new
  pub firsts : (x : ℕ) → x < total t → FirstSide store job old t x (get_or new (firsts_of t + x) 0)
