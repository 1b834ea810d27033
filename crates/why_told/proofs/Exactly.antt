-- Exactly one reason is given, and it is the true one (RULES Z2 to Z4). Assumes nothing.
use mathlib.Core.Path.{◌≡◌, refl}
use mathlib.Core.List.{List}
use Prim.Native.Nat.{ℕ}
use lib.Dec.{eqb}
use borrow.Author.Tests.{eq-eqb, ne_eqb, eqb-true, eqb-false}
use Rattle.laws.specs.Pick.{pick}
use Rattle.laws.proofs.Cases.{Which, which}
use Rattle.laws.proofs.Cases.Which.{holds, fails}
use Rattle.shapes.specs.Group.{group_cost, joined}
use Rattle.store.specs.Placing.{Final}
use Rattle.reasons.specs.declared.reason.Reason.{Reason}
use Rattle.reasons.specs.declared.reason.Reason.TheVariants.{None, Same, CutApart, NeverJoined}
use Rattle.reasons.specs.Why.{home_in, run_in, counted, reason_in_group, apart_of, why_of}
use Rattle.why_told.specs.WhyTold.{home_of, InOneRun, InTwoRuns, InTwoGroups}

-- what a reason says
abbrev pub Says : List Final → ℕ → ℕ → Reason → Type 0
Says gs a b None = ⊥
Says gs a b Same = InOneRun gs a b
Says gs a b CutApart = InTwoRuns gs a b
Says gs a b (NeverJoined x y j) = InTwoGroups gs a b x y j

module _ (gs : List Final) (a b : ℕ) where
  -- the reason that is given is true
  pub why-true : Says gs a b (why_of gs a b)
  unfolding why_of reason_in_group apart_of
  why-true = go (which (eqb (home_in a gs) (home_in b gs))) (which (eqb (run_in a (home_of gs a).ids) (run_in b (home_of gs a).ids)))
    where
      go : Which (eqb (home_in a gs) (home_in b gs)) → Which (eqb (run_in a (home_of gs a).ids) (run_in b (home_of gs a).ids))
          → Says gs a b (pick (eqb (home_in a gs) (home_in b gs))
          (pick (eqb (run_in a (home_of gs a).ids) (run_in b (home_of gs a).ids)) Same CutApart)
          (NeverJoined (group_cost (counted (home_of gs a))) (group_cost (counted (home_of gs b))) (group_cost (joined (counted (home_of gs a)) (counted (home_of gs b))))))
      go (holds t) (holds u) = rw (t, u) (record { one-group = eqb-true (home_in a gs) (home_in b gs) t; one-run = eqb-true (run_in a (home_of gs a).ids) (run_in b (home_of gs a).ids) u })
      go (holds t) (fails u) = rw (t, u) (record { one-group = eqb-true (home_in a gs) (home_in b gs) t; two_runs = eqb-false (run_in a (home_of gs a).ids) (run_in b (home_of gs a).ids) u })
      go (fails t) w = rw t (record { two-groups = eqb-false (home_in a gs) (home_in b gs) t; first-cost = refl; second-cost = refl; joined-cost = refl })

  -- and no other is: what is true of the ids fixes the reason
  pub one-run-same : InOneRun gs a b → why_of gs a b ≡ Same
  unfolding why_of reason_in_group
  one-run-same h = rw (eq-eqb (home_in a gs) (home_in b gs) h.one-group, eq-eqb (run_in a (home_of gs a).ids) (run_in b (home_of gs a).ids) h.one-run) refl

  pub two-runs-cut : InTwoRuns gs a b → why_of gs a b ≡ CutApart
  unfolding why_of reason_in_group
  two-runs-cut h = rw (eq-eqb (home_in a gs) (home_in b gs) h.one-group, ne_eqb (run_in a (home_of gs a).ids) (run_in b (home_of gs a).ids) h.two_runs) refl

  pub two-groups-apart : (x y j : ℕ) → InTwoGroups gs a b x y j → why_of gs a b ≡ NeverJoined x y j
  unfolding why_of apart_of
  two-groups-apart x y j h = rw (ne_eqb (home_in a gs) (home_in b gs) h.two-groups, ← h.first-cost, ← h.second-cost, ← h.joined-cost) refl
