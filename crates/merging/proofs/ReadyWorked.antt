-- P8 of docs/RULES.md in words: what `optimize` asks can be met. Assumes nothing.
use mathlib.Core.Path.{◌≡◌, refl}
use mathlib.Core.List.{List, [], ◌∷◌}
use native.Mathlib.Omega.{arith}
use Prim.Native.Nat.{ℕ, zero, suc, ◌+◌, ◌≤◌, ◌<◌}
use lib.ListN.{get_or}
use Rattle.laws.specs.Bag.{weigh}
use Rattle.laws.specs.Bounded.{tabulate}
use Rattle.laws.specs.LentRange.{seg}
use Rattle.shapes.specs.Lent.{Narrow}
use Rattle.planes.specs.Plane.{IsCost, plane_length, plane_words}
use Rattle.rule.proofs.Worked.{of}
use Rattle.slots.specs.declared.tables.MergeTables.{MergeTables}
use Rattle.slots.specs.Lent.{shape_in, group_in, starting}
use Rattle.merging.specs.LentOptimized.{Ready}

abbrev tables : MergeTables
tables = record { regions = 2; groups = 2; slots = 0; order = 4; counts = 6; place = 8; costs = 12; columns = 14; into = 16; log = 20; planes = 23 }

-- two shapes, their order, their counts, and room for the rest
abbrev lent : List ℕ
lent =
    1 ∷ 0 ∷ 0 ∷ 1
    ∷ 0 ∷ 1
    ∷ 1 ∷ 1
    ∷ 0 ∷ 0 ∷ 0 ∷ 0 ∷ 0 ∷ 0 ∷ 0 ∷ 0 ∷ 0 ∷ 0 ∷ 0 ∷ 0 ∷ 0 ∷ 0 ∷ 0 ∷ 0 ∷ 0 ∷ 0 ∷ 0 ∷ 0 ∷ 0
    ∷ []

narrow_two : (a b : ℕ) → a ≤ 4 → b ≤ 4 → Narrow (a ∷ b ∷ [])
narrow_two a b p q = record { few = omega arith; narrow = go }
  where
    go : (k : ℕ) → get_or (a ∷ b ∷ []) k 0 ≤ 4
    go zero = p
    go (suc zero) = q
    go (suc (suc k)) = omega arith

narrow-slots : (s : ℕ) → s < 2 → Narrow (shape_in tables lent s)
unfolding shape_in seg
narrow-slots zero l = narrow_two 1 0 (omega arith) (omega arith)
narrow-slots (suc zero) l = narrow_two 0 1 (omega arith) (omega arith)
narrow-slots (suc (suc s)) l = absurd (omega arith)

cost-slots : (s : ℕ) → s < 2 → (k : ℕ) → IsCost (get_or (shape_in tables lent s) k 0)
unfolding shape_in seg
cost-slots zero l zero = record { most = omega arith; not_three = λ e. omega arith }
cost-slots zero l (suc zero) = record { most = omega arith; not_three = λ e. omega arith }
cost-slots zero l (suc (suc k)) = record { most = omega arith; not_three = λ e. omega arith }
cost-slots (suc zero) l zero = record { most = omega arith; not_three = λ e. omega arith }
cost-slots (suc zero) l (suc zero) = record { most = omega arith; not_three = λ e. omega arith }
cost-slots (suc zero) l (suc (suc k)) = record { most = omega arith; not_three = λ e. omega arith }
cost-slots (suc (suc s)) l k = absurd (omega arith)

dealt-within : (i : ℕ) → i < 2 → get_or lent (tables.order + i) 0 < 2
dealt-within zero l = omega arith
dealt-within (suc zero) l = omega arith
dealt-within (suc (suc i)) l = absurd (omega arith)

dealt-apart : (i j : ℕ) → i < j → j < 2 → get_or lent (tables.order + i) 0 ≡ get_or lent (tables.order + j) 0 → ⊥
dealt-apart zero (suc zero) l m e = omega arith
dealt-apart zero zero l m e = omega arith
dealt-apart (suc i) zero l m e = omega arith
dealt-apart (suc i) (suc zero) l m e = omega arith
dealt-apart i (suc (suc j)) l m e = omega arith

pub starting-p8 : starting tables lent ≡ of (1 ∷ 0 ∷ []) 1 ∷ of (0 ∷ 1 ∷ []) 1 ∷ []
unfolding starting tabulate group_in shape_in seg
starting-p8 = refl

pub ready-p8 : Ready tables lent
unfolding starting tabulate group_in shape_in seg weigh plane_words plane_length
ready-p8 = record {
  shaped = record {
    laid = record {
      groups-few = omega arith;
      regions-few = omega arith;
      slots_end = omega arith;
      order-end = omega arith;
      counts_end = omega arith;
      place_end = omega arith;
      costs-end = omega arith;
      columns-end = omega arith;
      into-end = omega arith;
      log-end = omega arith;
      planes-end = omega arith;
    };
    narrow = narrow-slots;
    costs = cost-slots;
  };
  dealt = record { within = dealt-within; apart = dealt-apart };
  sets-few = omega arith;
}
