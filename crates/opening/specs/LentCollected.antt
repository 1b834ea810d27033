-- What the steps of a build ask and leave: a job's sets held in work, with where its regions' coordinates stand. Assumes nothing.
use Rattle.std.specs.Prelude.{◌≡◌, List, [], ◌∷◌, ℕ, ◌+◌, ◌≤◌, ◌<◌, length, get_or}
use Rattle.laws.specs.LentRange.{Only}
use Rattle.sets.specs.Lent.{sets_in}
use Rattle.store.specs.Lent as store
use Rattle.said.specs.Records.{coordinates_start}
use Rattle.said.specs.Job.{Said}
use Rattle.encoder.specs.Lent.{Fit}
use Rattle.encoder.specs.declared.places.Places.{Places}
use Rattle.call.specs.Build.{coords_in_use}
use Rattle.limits.specs.Limits.{most_axes}

-- n words from `at` on were numbers of regions, and are where in the job the coordinates of these start
pub record StartsAt (at n axes : ℕ) (old new : List ℕ) : Type 0 where
  pub only : Only ((at, n) ∷ []) old new
  pub is : (i : ℕ) → i < n → get_or new (at + i) 0 ≡ coordinates_start axes (get_or old (at + i) 0)

-- work holds what a job says
pub record Collected (axes starts : ℕ) (job : List ℕ) (p : Places) (s : Said) (w : List ℕ) : Type 0 where
  pub fit : Fit p w
  pub axes-few : axes ≤ most_axes
  pub starts-to : starts + p.regions ≤ p.line
  pub sets-are : sets_in 0 p.sets w ≡ s.sets
  pub regions-are : length s.used ≡ p.regions
  pub sourced : (r : ℕ) → r < p.regions → store.Sourced axes job (get_or w (starts + r) 0)
  pub coords-are : store.coords_in job axes w starts p.regions ≡ coords_in_use s
  pub no-use : length s.sets ≡ 0 → length s.used ≡ 0
