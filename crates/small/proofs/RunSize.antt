-- What the runs of final groups take, by what the groups cost. Assumes nothing.
use mathlib.Core.Path.{◌≡◌, refl, ap}
use mathlib.Core.Bool.{Bool, true, false}
use mathlib.Core.List.{List, [], ◌∷◌, map}
use mathlib.Core.Logic.{⊎_elim}
use Prim.Native.Nat.{ℕ, zero, suc, ◌+◌, ◌-◌, ◌*◌, ◌≤◌, ◌<◌}
use native.Mathlib.Nat.{suc-mul, mul-add, add-mul, mul_comm, mul_assoc, mul-le-mul_left, mul-le-mul_right, min-le_left, min-le_right, le_refl}
use native.Mathlib.Omega.{arith}
use lib.Dec.{eqb}
use lib.ListN.{length, take, drop, length-take, length-drop, length-append}
use borrow.Author.Tests.{eq-eqb, ne_eqb}
use Rattle.laws.specs.Pick.{pick}
use Rattle.laws.specs.Every.{All}
use Rattle.laws.specs.Bag.{weigh}
use Rattle.laws.specs.Bounded.{tabulate}
use Rattle.laws.specs.Joining.{join_all}
use Rattle.laws.proofs.Cases.{same_or_not}
use Rattle.laws.proofs.BagLaws.{weigh-append}
use Rattle.shapes.specs.Shape.{cost_of_row, columns, overhead}
use Rattle.shapes.specs.Group.{group_cost, max_items}
use Rattle.rows.specs.Columns.{columns_of}
use Rattle.rows.specs.Subtable.{run_count_for}
use Rattle.store.specs.Placing.{Final, runs_of, all_runs, row_bytes, run_bytes}
use Rattle.sizes.specs.Sizes.{cost_of}
use Rattle.small.proofs.RowSize.{columns-few, columns-cost, row-twice}

-- ---- numbers

-- one run more
run_step : (n k t left next row x y : ℕ) → x ≤ k + t * row → y ≤ n * k + next * row → t + next ≤ left → x + y ≤ suc n * k + left * row
run_step n k t left next row x y a b c =
    omega (arith, mul-le-mul_right row c, add-mul t next row, suc-mul n k)

pick-most : (b : Bool) (x y : ℕ) → x ≤ y → pick b x y ≤ y
pick-most true x y h = h
pick-most false x y h = le_refl y

four-most : (c r : ℕ) → 4 ≤ 10 + 2 * c + r
four-most c r = omega arith

-- so many runs of m rows in all
runs-cost : (n c r m row o : ℕ) → max_items * n ≤ max_items + m → c ≤ r → row ≤ 2 * r → 10 + 2 * c ≤ o → n * (10 + 2 * c) + m * row ≤ 3 * (o + r * m) + 5 * m
runs-cost zero c r m row o a b d e =
    omega (arith, mul-le-mul_left m d, mul_comm m (2 * r), mul_assoc 2 r m)
runs-cost (suc p) c r m row o a b d e =
    let half : 2 * p ≤ m = omega arith in
    omega (
      arith,
      suc-mul p (10 + 2 * c),
      mul-add p 10 (2 * c),
      mul_comm p (2 * c),
      mul_assoc 2 c p,
      mul_comm c p,
      mul_assoc 2 p c,
      mul-le-mul_right c half,
      mul-le-mul_left m b,
      mul_comm m r,
      mul-le-mul_left m d,
      mul_comm m (2 * r),
      mul_assoc 2 r m,
    )

-- ---- the runs of one group

pub runs-few : (m : ℕ) → max_items * run_count_for m ≤ max_items + m
unfolding run_count_for
runs-few m = ⊎_elim
    (λ (e : m ≡ 0). rw (eq-eqb m 0 e) (omega arith))
    (λ d. rw (ne_eqb m 0 d) (omega arith))
    (same_or_not m 0)

module _ (g : Final) where
  abbrev cols : ℕ
  cols = length (columns_of g.shape)

  abbrev row : ℕ
  row = row_bytes g.shape

  abbrev part : ℕ → List ℕ
  part k = take max_items (drop (max_items * k) g.ids)

  abbrev run_at : ℕ → Final
  run_at k = record { shape = g.shape; ids = part k }

  abbrev left : ℕ → ℕ
  left k = length g.ids - max_items * k

  part-long : (k : ℕ) → length (part k) + left (suc k) ≤ left k
  part-long k =
      let d = length-drop (max_items * k) g.ids in
      let e = length-take max_items (drop (max_items * k) g.ids) in
      omega (arith, min-le_left max_items (length (drop (max_items * k) g.ids)), min-le_right max_items (length (drop (max_items * k) g.ids)))

  run-most : (k : ℕ) → run_bytes (run_at k) ≤ 10 + 2 * cols + length (part k) * row
  unfolding run_bytes
  run-most k = pick-most (eqb (length (part k)) 0) 4 (10 + 2 * cols + length (part k) * row) (four-most cols (length (part k) * row))

  runs-from : (n a : ℕ) → weigh run_bytes (tabulate a n run_at) ≤ n * (10 + 2 * cols) + left a * row
  unfolding weigh tabulate
  runs-from zero a = omega arith
  runs-from (suc n) a =
      run_step n (10 + 2 * cols) (length (part a)) (left a) (left (suc a)) row (run_bytes (run_at a)) (weigh run_bytes (tabulate (suc a) n run_at))
      (run-most a) (runs-from n (suc a)) (part-long a)

  pub group-most : length g.shape < 32768 → weigh run_bytes (runs_of g) ≤ 3 * cost_of g + 5 * length g.ids
  unfolding runs_of group_cost overhead
  group-most short =
      let z : left 0 ≡ length g.ids = omega arith in
      let from = rw z at (runs-from (run_count_for (length g.ids)) 0) in
      omega (
        arith,
        from,
        runs-cost (run_count_for (length g.ids)) cols (cost_of_row g.shape) (length g.ids) row (10 + 2 * columns g.shape)
            (runs-few (length g.ids)) (columns-cost g.shape) (row-twice g.shape short) (omega (arith, columns-few g.shape)),
      )

-- ---- of all

abbrev pub ids_of : Final → ℕ
ids_of f = length f.ids

pub all_most : (gs : List Final) → All (λ f. length f.shape < 32768) gs → weigh run_bytes (all_runs gs) ≤ 3 * weigh cost_of gs + 5 * weigh ids_of gs
unfolding all_runs join_all weigh
all_most [] h = omega arith
all_most (g ∷ gs) h = omega (arith, weigh-append run_bytes (runs_of g) (join_all (map runs_of gs)), group-most g h.0, all_most gs h.1)

tabulate-long : {A : Type 0} (n a : ℕ) (f : ℕ → A) → length (tabulate a n f) ≡ n
unfolding tabulate
tabulate-long zero a f = refl
tabulate-long (suc n) a f = ap suc (tabulate-long n (suc a) f)

group-runs : (g : Final) → length (runs_of g) ≡ run_count_for (length g.ids)
unfolding runs_of
group-runs g = tabulate-long (run_count_for (length g.ids)) 0 (run_at g)

pub all-runs : (gs : List Final) → max_items * length (all_runs gs) ≤ max_items * length gs + weigh ids_of gs
unfolding all_runs join_all weigh
all-runs [] = omega arith
all-runs (g ∷ gs) = omega (arith, length-append (runs_of g) (join_all (map runs_of gs)), group-runs g, runs-few (length g.ids), all-runs gs)
