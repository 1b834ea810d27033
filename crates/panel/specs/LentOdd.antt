-- What the laws of odd records say of a job: which records the panel's reader takes, and the first that it does not. Assumes nothing.
use Rattle.std.specs.Prelude.{◌≡◌, List, ℕ, ◌<◌}
use Rattle.said.specs.Records.{record_at}
use Rattle.panel.specs.Taken.{panel_refusal}
use Rattle.panel.specs.Panelled.{Odd}

-- it takes each of the first n records
abbrev pub AllTaken : List ℕ → ℕ → Type 0
AllTaken job n = (j : ℕ) → j < n → panel_refusal (record_at job j) ≡ 0

-- the first of n records that it does not take
pub record FirstOdd (job : List ℕ) (n : ℕ) (x : Odd) : Type 0 where
  pub within : x.at < n
  pub before-taken : AllTaken job x.at
  pub number_is : x.no ≡ panel_refusal (record_at job x.at)
  pub some : x.no ≡ 0 → ⊥
