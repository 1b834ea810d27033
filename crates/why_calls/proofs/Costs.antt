-- What final groups cost is far below what a word of 64 bits holds. Assumes nothing.
use mathlib.Core.Path.{◌≡◌, refl, sym, ◌∙◌}
use mathlib.Core.List.{List, [], ◌∷◌}
use Prim.Native.Nat.{ℕ, zero, suc, ◌+◌, ◌*◌, ◌≤◌, ◌<◌}
use native.Mathlib.Nat.{mul-le-mul_right}
use native.Mathlib.Omega.{arith}
use lib.ListN.{length, length-append}
use Rattle.laws.specs.Joining.{join_all}
use Rattle.laws.proofs.EveryLaws.{all-get_or}
use Rattle.shapes.specs.Shape.{cost_of_row, columns, overhead, join}
use Rattle.shapes.specs.Group.{Group, group_cost, joined}
use Rattle.shapes.specs.Lent.{Narrow}
use Rattle.shapes.proofs.LentLaws.{narrow-small, narrow-join}
use Rattle.rows.specs.Row.{Widths}
use Rattle.store.specs.Placing.{Final}
use Rattle.encoder.specs.Packed.{Packed}
use Rattle.accepted.proofs.PackedLaws.{row_ids, WellPacked, rows-most}
use Rattle.reasons.specs.Why.{final_no, counted}
use Rattle.why_words.specs.WhyWords.{cost_limit}

row-cost : (r n : ℕ) → r ≤ 262144 → n ≤ 2097152 → r * n ≤ 549755813888
row-cost r n p q =
    let a : r * n ≤ 262144 * n = mul-le-mul_right n p in
    omega arith

-- of a narrow shape and no more sets than two groups can have
cost-low : (g : Group) → Narrow g.shape → g.sets ≤ 2097152 → group_cost g < cost_limit
unfolding group_cost overhead
cost-low g n f =
    let s = narrow-small g.shape (cost_of_row g.shape) (columns g.shape) n (record { row_is = refl; columns-is = refl }) in
    omega (arith, s.columns-most, row-cost (cost_of_row g.shape) g.sets s.row-most f)

-- a group has no more rows than all have
group-most : (gs : List Final) (q : ℕ) → length (final_no gs q).ids ≤ length (row_ids gs)
unfolding join_all
group-most [] q = omega arith
group-most (g ∷ gs) zero = omega (arith, length-append g.ids (row_ids gs))
group-most (g ∷ gs) (suc q) = omega (arith, length-append g.ids (row_ids gs), group-most gs q)

module _ (regions : ℕ) (k : Packed) (good : WellPacked regions k) (few : regions ≤ 65536) (sets : length k.sets ≤ 1048576) where
  abbrev gs : List Final
  gs = k.finals

  abbrev nil : Final
  nil = record { shape = []; ids = [] }

  rows_few : (q : ℕ) → length (final_no k.finals q).ids ≤ 1048576
  rows_few q = omega (arith, group-most gs q, rows-most regions k good)

  narrow : (q : ℕ) → q < length k.finals → Narrow (final_no k.finals q).shape
  narrow q h =
      let w = all-get_or (λ (f : Final). Widths f.shape) gs q nil good.widths h in
      let l = all-get_or (λ (f : Final). length f.shape ≡ regions) gs q nil good.long h in
      record { few = omega arith; narrow = w.most }

  long : (q : ℕ) → q < length k.finals → length (final_no k.finals q).shape ≡ regions
  long q h = all-get_or (λ (f : Final). length f.shape ≡ regions) gs q nil good.long h

  pub cost-few : (q : ℕ) → q < length k.finals → group_cost (counted (final_no k.finals q)) < cost_limit
  cost-few q h = cost-low (counted (final_no gs q)) (narrow q h) (omega (arith, rows_few q))

  pub joined-few : (p q : ℕ) → p < length k.finals → q < length k.finals → group_cost (joined (counted (final_no k.finals p)) (counted (final_no k.finals q))) < cost_limit
  unfolding joined
  joined-few p q h i =
      cost-low (record { shape = join (final_no gs p).shape (final_no gs q).shape; sets = length (final_no gs p).ids + length (final_no gs q).ids })
      (narrow-join (final_no gs p).shape (final_no gs q).shape (narrow p h) (narrow q i) (long p h ∙ sym (long q i)))
      (omega (arith, rows_few p, rows_few q))
