-- A job's records that pass, one after another, and the one that does not, as states of the walk. Assumes nothing.
use mathlib.Core.Path.{◌≡◌}
use mathlib.Core.List.{List}
use Prim.Native.Nat.{ℕ, zero, suc, ◌<◌}
use Rattle.said.specs.Records.{record_at}
use Rattle.said.specs.Job.{State, in_axes, stop, on, step, Outcome, ended}

-- records 0 to i, without i, pass and leave this state
unfoldable pub Passed : ℕ → ℕ → List ℕ → ℕ → State → Type 0
Passed axes mode job zero s = s ≡ in_axes
Passed axes mode job (suc i) s = (t : State) × Passed axes mode job i t × (step axes mode job (record_at job i) i t ≡ on s)

-- record i is the earliest bad one, by number n
pub record StopsAt (axes mode : ℕ) (job : List ℕ) (records n i : ℕ) : Type 0 where
  pub state : State
  pub within : i < records
  pub before-pass : Passed axes mode job i state
  pub stops : step axes mode job (record_at job i) i state ≡ stop n

-- all records pass, and the end of the job answers
pub record EndsAs (axes mode : ℕ) (job : List ℕ) (records : ℕ) (o : Outcome) : Type 0 where
  pub state : State
  pub all_pass : Passed axes mode job records state
  pub ends : ended axes job records state ≡ o
