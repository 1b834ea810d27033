-- What is promised of a look. Assumes nothing.
use Rattle.std.specs.Prelude.{◌≡◌, List, ℕ}
use Rattle.pairs.specs.declared.Pair.{Pair}
use Rattle.call.specs.Lending.{Lending}
use Rattle.call.specs.Build.{outcome_of, after}
use Rattle.reasons.specs.declared.reason.Reason.{Reason}
use Rattle.looking.specs.Look.{why_from}

-- the reason by what the records say, and work and pair records as a build in mode 0 leaves them
pub record Looks (c : Lending) (first second : ℕ) (r : Reason) (work : List ℕ) (pairs : List Pair) : Type 0 where
  pub answer : r ≡ why_from (outcome_of c) first second
  pub work-is : work ≡ (after c).work
  pub pairs_is : pairs ≡ (after c).pairs
