-- A record that passes, by the job's bytes up to it (T2): none of R30 to R34, R6, R7 and R9 is true of it. Assumes nothing.
use Rattle.std.specs.Prelude.{List, ℕ, ◌<◌}
use Rattle.said.specs.Records.{record_at}
use Rattle.refusing.specs.Counts.{UnknownKind, NotZeroAt, OutOfTurn, TooLate, InUnfinished, UnknownRegion, RegionTwice, SetsFull}

pub record Fine (axes mode : ℕ) (job : List ℕ) (i : ℕ) : Type 0 where
  pub kind-known : UnknownKind (record_at job i) → ⊥
  pub zeros-zero : (b : ℕ) → NotZeroAt (record_at job i) b → ⊥
  pub not-out-of-turn : OutOfTurn axes job i (record_at job i) → ⊥
  pub not_late : TooLate axes job i (record_at job i) → ⊥
  pub not-unfinished : InUnfinished axes job i (record_at job i) → ⊥
  pub not-unknown : UnknownRegion axes job i (record_at job i) → ⊥
  pub not-twice : RegionTwice axes job i (record_at job i) → ⊥
  pub not_full : SetsFull axes mode job i (record_at job i) → ⊥

-- so is each of the first n records
abbrev pub AllFine : ℕ → ℕ → List ℕ → ℕ → Type 0
AllFine axes mode job n = (j : ℕ) → j < n → Fine axes mode job j
