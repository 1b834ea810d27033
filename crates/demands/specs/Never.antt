-- In mode 0 no store is too big: STORE_TOO_BIG (R60) is never given, by a build or by a forecast. Assumes nothing.
use Rattle.std.specs.Prelude.{◌≡◌, ℕ}
use Rattle.said.specs.Refusals.{store_too_big}
use Rattle.finishing.specs.Answers.{Refused}
use Rattle.call.specs.Lending.{Lending}
use Rattle.call.specs.Build.{answer_of}
use Rattle.call.specs.Foretold.{foretold}

pub record NeverBig (c : Lending) : Type 0 where
  pub build : (p : ℕ) → answer_of c ≡ Refused store_too_big p → ⊥
  pub forecast : (p : ℕ) → foretold c ≡ Refused store_too_big p → ⊥
