-- What is true of the sets of a job after each of its records (RULES S3).
use Rattle.std.specs.Prelude.{◌≡◌, true, length, get_or}
use Rattle.laws.specs.Every.{All}
use Rattle.sets.specs.Set.{Ascending, Proper}
use Rattle.said.specs.Job.{Said}
use Rattle.said.specs.Sets.{has}

-- sets are sorted, hold no zeros, and name regions in use; the set that has not ended only such as it has named
pub record SetsGood (s : Said) : Type 0 where
  pub rising : Ascending 0 s.begun
  pub proper : Proper (length s.used) s.begun
  pub fresh : All (λ e. has (get_or s.used e.0 0) s.named ≡ true) s.begun
  pub sets-rising : All (Ascending 0) s.sets
  pub sets-proper : All (Proper (length s.used)) s.sets
