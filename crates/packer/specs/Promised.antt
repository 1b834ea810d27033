-- What is promised of a build call and of a forecast. Assumes nothing.
use Rattle.std.specs.Prelude.{◌≡◌, List, ℕ}
use Rattle.pairs.specs.declared.Pair.{Pair}
use Rattle.finishing.specs.Answers.{Built}
use Rattle.call.specs.Lending.{Lending, Left}
use Rattle.call.specs.Build.{after, answer_of}
use Rattle.call.specs.Foretold.{foretold}
use Rattle.call.specs.Profiled.{answer_by, after_by}
use Rattle.panel.specs.declared.Profile.{Profile}

-- what is promised of a call: its answer, and all that is left
pub record Obeys (c : Lending) (r : Built) (l : Left) : Type 0 where
  pub answer : r ≡ answer_of c
  pub left : l ≡ after c

-- and of one by a profile
pub record ObeysBy (p : Profile) (c : Lending) (r : Built) (l : Left) : Type 0 where
  pub answer : r ≡ answer_by p c
  pub left : l ≡ after_by p c

-- what is promised of a forecast: its answer, and work and pair records as a build leaves them
pub record Foretells (c : Lending) (r : Built) (work : List ℕ) (pairs : List Pair) : Type 0 where
  pub answer : r ≡ foretold c
  pub work-is : work ≡ (after c).work
  pub pairs_is : pairs ≡ (after c).pairs
