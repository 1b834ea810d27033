-- One build call: all that is said and lent, and what is left of it. Assumes nothing.
use Rattle.std.specs.Prelude.{List, [], ℕ}
use Rattle.pairs.specs.declared.Pair.{Pair}
use Rattle.finishing.specs.Buffers.{Buffers, buffers}

-- axis count, mode and job; work and pair records; what is written to
pub record Lending : Type 0 where
  pub axes : ℕ
  pub mode : ℕ
  pub job : List ℕ
  pub work : List ℕ
  pub pairs : List Pair
  pub lent : Buffers

abbrev pub lending : ℕ → ℕ → List ℕ → List ℕ → List Pair → Buffers → Lending
lending axes mode job work pairs lent = record { axes = axes; mode = mode; job = job; work = work; pairs = pairs; lent = lent }

-- a forecast is lent nothing to write to
abbrev pub no_buffers : Buffers
no_buffers = buffers [] [] [] [] []

-- what work, pair records and buffers hold after the call
pub record Left : Type 0 where
  pub work : List ℕ
  pub pairs : List Pair
  pub lent : Buffers

abbrev pub leaves : List ℕ → List Pair → Buffers → Left
leaves work pairs lent = record { work = work; pairs = pairs; lent = lent }

-- a pair record of zeros
abbrev pub no_pair : Pair
no_pair = record { gain = 0; first = 0; second = 0 }
