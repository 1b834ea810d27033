use Prim.Native.Nat.{ℕ, ◌+◌, ◌*◌, ◌/◌, ◌≤◌}
use native.Mathlib.Nat.{min-eq_left, min-eq_right}
use Rattle.laws.proofs.Products.{product}
use Rattle.limits.specs.Limits.{max_regions, max_shapes}
use Rattle.said.specs.Refusals.{published_work}
use native.Mathlib.Omega.{arith}
use Rattle.job.proofs.early.needed.Goals as goal

small : (n r : ℕ) → n ≤ max_shapes → r ≤ max_regions → n * (r + 16 + 3 * ((r + 31) / 32)) ≤ max_shapes * 35855
small n r h l = product max_shapes 35855 h (omega arith)

pub overflow_mul-result-then-records-lt-SHAPES : goal.overflow_mul-result-then-records-lt-SHAPES
overflow_mul-result-then-records-lt-SHAPES c =
    let small-here : c.args.records * (c.args.regions + 16 + 3 * ((c.args.regions + 31) / 32)) ≤ max_shapes * 35855 = small c.args.records c.args.regions (omega arith) c.requires.1 in
    omega (arith, small-here)

pub overflow_add-result : goal.overflow_add-result
overflow_add-result c =
    let small-here : c.args.records * (c.args.regions + 16 + 3 * ((c.args.regions + 31) / 32)) ≤ max_shapes * 35855 = small c.args.records c.args.regions (omega arith) c.requires.1 in
    omega (arith, small-here)

pub returns-then-records-lt-SHAPES : goal.returns-then-records-lt-SHAPES
unfolding published_work
returns-then-records-lt-SHAPES c = let h : c.args.records ≤ max_shapes = omega arith in simp (min-eq_left h)

pub returns : goal.returns
unfolding published_work
returns c = let h : max_shapes ≤ c.args.records = omega arith in simp (min-eq_right h)
