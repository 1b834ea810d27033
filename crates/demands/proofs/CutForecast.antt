-- The forecast of a group that is cut: of 65,536 sets of one shape, two subtables, each with its own offset, head and columns. Assumes nothing.
use mathlib.Core.Path.{◌≡◌, refl, ap, ◌∙◌}
use mathlib.Core.List.{List, [], ◌∷◌}
use Prim.Native.Nat.{ℕ, ◌+◌, ◌*◌}
use native.Mathlib.Omega.{arith}
use lib.ListN.{length, take, drop, length-take, length-drop}
use borrow.Author.Tests.{ne_eqb}
use Rattle.laws.specs.Bag.{weigh}
use Rattle.laws.specs.Bounded.{tabulate}
use Rattle.laws.specs.Joining.{join_all}
use Rattle.shapes.specs.Shape.{Shape}
use Rattle.shapes.specs.Group.{max_items}
use Rattle.rows.specs.Columns.{columns_of}
use Rattle.rows.specs.Subtable.{run_count_for}
use Rattle.store.specs.Placing.{Final, runs_of, all_runs, row_bytes, run_bytes, forecast_of}

two : run_count_for 65536 ≡ 2
unfolding run_count_for
two = refl

-- of a run of so many rows
run_is : (s : Shape) (ids : List ℕ) (n : ℕ) → length ids ≡ n → (n ≡ 0 → ⊥) → run_bytes (record { shape = s; ids = ids }) ≡ 10 + 2 * length (columns_of s) + n * row_bytes s
unfolding run_bytes
run_is s ids n e d = rw (e, ne_eqb n 0 d)

module _ (s : Shape) (ids : List ℕ) (e : length ids ≡ 65536) where
  abbrev run : ℕ → Final
  run k = record { shape = s; ids = take max_items (drop (max_items * k) ids) }

  runs-are : weigh run_bytes (all_runs (record { shape = s; ids = ids } ∷ [])) ≡ run_bytes (run 0) + (run_bytes (run 1) + 0)
  unfolding all_runs runs_of join_all tabulate weigh
  runs-are = ap (λ (k : ℕ). weigh run_bytes (join_all (tabulate 0 k run ∷ []))) (ap run_count_for e ∙ two)

  first : length (take max_items (drop (max_items * 0) ids)) ≡ 65535
  first = omega (arith, length-take max_items (drop (max_items * 0) ids), length-drop (max_items * 0) ids)

  last : length (take max_items (drop (max_items * 1) ids)) ≡ 1
  last = omega (arith, length-take max_items (drop (max_items * 1) ids), length-drop (max_items * 1) ids)

  pub cut-forecast : (axes kept : ℕ) → forecast_of axes kept (record { shape = s; ids = ids } ∷ [])
      ≡ 12 + 6 * axes * kept + (10 + 2 * length (columns_of s) + 65535 * row_bytes s) + (10 + 2 * length (columns_of s) + 1 * row_bytes s)
  unfolding forecast_of
  cut-forecast axes kept = omega (
    arith,
    runs-are,
    run_is s (take max_items (drop (max_items * 0) ids)) 65535 first (λ z. omega arith),
    run_is s (take max_items (drop (max_items * 1) ids)) 1 last (λ z. omega arith),
  )
