-- A yes by the bytes of job and store (#106): every set that the job's records say is read at its word. Assumes nothing.
use Rattle.std.specs.Prelude.{◌≡◌, true, List, ℕ, ◌/◌, ◌%◌, ◌<◌, length, get_or}
use Rattle.said.specs.Records.{record_count}
use Rattle.said.specs.Job.{Said}
use Rattle.stores.specs.Stores.{Parsed}
use Rattle.stores.specs.Coordinates.{is_row_there}
use Rattle.told.specs.Told.{ends_before}
use Rattle.demands.specs.SetsRead.{SetRead}
use Rattle.judging.specs.Yes.{Sound}

-- set k has a word, which names a row, and is read there: each of its value records has its value at the listed region of the same coordinates, a value other
-- than zero is listed, and every listed region that it does not name is zero
pub record SetTold (axes : ℕ) (job store words : List ℕ) (p : Parsed) (k : ℕ) : Type 0 where
  pub word-there : k < length words
  pub row-there : is_row_there p (get_or words k 0 / 65536) (get_or words k 0 % 65536) ≡ true
  pub reads : SetRead axes job store k (get_or words k 0)

-- the job is sound, the store is well formed, has its axis count and lists no region twice, and every set, one an end record, is read
pub record YesTold (axes : ℕ) (job store words : List ℕ) (work : ℕ) : Type 0 where
  pub said : Said
  pub parsed-to : Parsed
  pub sound : Sound axes job store work said parsed-to
  pub sets-told : (k : ℕ) → k < ends_before job (record_count job) → SetTold axes job store words parsed-to k
