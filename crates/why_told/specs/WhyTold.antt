-- What each reason says of the final groups of a job's sets (RULES Z2 to Z4). Assumes nothing.
use Rattle.std.specs.Prelude.{◌≡◌, List, ℕ, ◌+◌, ◌≤◌}
use Rattle.shapes.specs.Group.{group_cost, joined}
use Rattle.store.specs.Placing.{Final}
use Rattle.reasons.specs.Why.{home_in, final_no, run_in, counted}

-- the final group of an id's row
abbrev pub home_of : List Final → ℕ → Final
home_of gs x = final_no gs (home_in x gs)

-- Z2: one final group, and one run of it
pub record InOneRun (gs : List Final) (a b : ℕ) : Type 0 where
  pub one-group : home_in a gs ≡ home_in b gs
  pub one-run : run_in a (home_of gs a).ids ≡ run_in b (home_of gs a).ids

-- Z3: one final group, and two runs
pub record InTwoRuns (gs : List Final) (a b : ℕ) : Type 0 where
  pub one-group : home_in a gs ≡ home_in b gs
  pub two_runs : run_in a (home_of gs a).ids ≡ run_in b (home_of gs a).ids → ⊥

-- Z4: two final groups, with what each costs by the rule, and what they would as one
pub record InTwoGroups (gs : List Final) (a b one other both : ℕ) : Type 0 where
  pub two-groups : home_in a gs ≡ home_in b gs → ⊥
  pub first-cost : one ≡ group_cost (counted (home_of gs a))
  pub second-cost : other ≡ group_cost (counted (home_of gs b))
  pub joined-cost : both ≡ group_cost (joined (counted (home_of gs a)) (counted (home_of gs b)))

-- joining two of the groups gains nothing
abbrev pub NoGain : Final → Final → Type 0
NoGain g h = group_cost (counted g) + group_cost (counted h) ≤ group_cost (joined (counted g) (counted h))
