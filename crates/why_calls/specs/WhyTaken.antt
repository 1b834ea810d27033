-- What a call of `ivs_why` that is taken tells: the reason by the final groups of the job's sets, and by the map that it leaves (RULES Z1 to Z4, Z8).
-- Assumes nothing.
use Rattle.std.specs.Prelude.{◌≡◌, List, ◌⊎◌, ℕ, ◌+◌, ◌/◌, ◌≤◌, ◌<◌, length, get_or}
use Rattle.std.proofs.Math.IntN.{sub_ℕ}
use Rattle.laws.specs.Signed.{signed}
use Rattle.store.specs.Placing.{Final}
use Rattle.said.specs.Job.{Said, fine}
use Rattle.call.specs.Lending.{Lending, Left}
use Rattle.call.specs.Build.{packed_of, outcome_of}
use Rattle.refusing.specs.Exactly.{Exactly}
use Rattle.reasons.specs.Why.{home_in}
use Rattle.why_told.specs.WhyTold.{InOneRun, InTwoRuns, InTwoGroups}

-- ---- the words of a report (Z8)

abbrev pub reason_told : List ℕ → ℕ
reason_told report = get_or report 2 0

-- what the first and the second group cost, and what they would as one
abbrev pub first_told : List ℕ → ℕ
first_told report = get_or report 3 0

abbrev pub second_told : List ℕ → ℕ
second_told report = get_or report 4 0

abbrev pub joined_told : List ℕ → ℕ
joined_told report = get_or report 5 0

abbrev pub gain_told : List ℕ → ℕ
gain_told report = get_or report 6 0

-- ---- what they say

-- of two ids, by final groups
pub record ReasonTrue (gs : List Final) (a b : ℕ) (report : List ℕ) : Type 0 where
  -- each has its row in one of the groups
  pub first-there : home_in a gs < length gs
  pub second-there : home_in b gs < length gs
  -- one of three is told
  pub told : (reason_told report ≡ 1) ⊎ ((reason_told report ≡ 2) ⊎ (reason_told report ≡ 3))
  -- Z2, Z3, Z4: each exactly where it is true
  pub same : Exactly (reason_told report ≡ 1) (InOneRun gs a b)
  pub cut : Exactly (reason_told report ≡ 2) (InTwoRuns gs a b)
  pub apart : Exactly (reason_told report ≡ 3) (home_in a gs ≡ home_in b gs → ⊥)
  -- the costs are the rule's
  pub costs : reason_told report ≡ 3 → InTwoGroups gs a b (first_told report) (second_told report) (joined_told report)
  -- the gain is what they cost apart less what they would as one, as two's complement of 64 bits, and is 0 or less
  pub gain : reason_told report ≡ 3 → signed 8 (gain_told report) ≡ sub_ℕ (first_told report + second_told report) (joined_told report)
  pub no-gain : reason_told report ≡ 3 → first_told report + second_told report ≤ joined_told report

-- the subtable of an id's row: the outer number of its map word (F4)
abbrev pub outer_of : List ℕ → ℕ → ℕ
outer_of map x = get_or map x 0 / 65536

-- of a call, by what its records say, and by the map that it leaves
pub record WhyTaken (c : Lending) (a b : ℕ) (l : Left) (report : List ℕ) : Type 0 where
  pub said : Said
  pub said-is : outcome_of c ≡ fine said
  pub reason-true : ReasonTrue (packed_of 0 said).finals a b report
  -- Z2 is told exactly where both words name one subtable
  pub one_table : Exactly (reason_told report ≡ 1) (outer_of l.lent.map a ≡ outer_of l.lent.map b)
