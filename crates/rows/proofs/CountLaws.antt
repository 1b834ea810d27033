-- Counting the regions of one width, and a row's form by the counts. Assumes nothing.
use mathlib.Core.Path.{◌≡◌, refl, ◌∙◌}
use mathlib.Core.List.{[], ◌∷◌, ◌++◌}
use Prim.Native.Nat.{ℕ, ◌+◌, ◌<◌}
use native.Mathlib.Omega.{arith}
use lib.Dec.{eqb}
use lib.ListN.{length, length-append}
use borrow.Author.Tests.{lt-ltb, le-ltb}
use Rattle.std.specs.List.{count_by}
use Rattle.std.proofs.lemmas.List.Sums.{sum_by-cons}
use mathlib.Core.Bool.{cond}
use Rattle.laws.proofs.Cases.{Which, which}
use Rattle.laws.proofs.Cases.Which.{holds, fails}
use Rattle.shapes.specs.Shape.{Shape}
use Rattle.rows.specs.Columns.{add_if, of_width, columns_of, word_count}

-- as the code counts them
pub counted : (w r : ℕ) (s : Shape) → count_by (λ v. eqb v w) s ≡ length (of_width w r s)
unfolding of_width
counted w r [] = refl
counted w r (v ∷ s) = go (which (eqb v w)) (counted w (r + 1) s)
  where
    go : Which (eqb v w) → count_by (λ v. eqb v w) s ≡ length (of_width w (r + 1) s) → count_by (λ v. eqb v w) (v ∷ s) ≡ length (add_if (eqb v w) r (of_width w (r + 1) s))
    go (holds t) e = unfold add_if in sum_by-cons (λ x. cond (eqb x w) 1 0) v s ∙ rw t (omega (arith, e))
    go (fails t) e = unfold add_if in sum_by-cons (λ x. cond (eqb x w) 1 0) v s ∙ rw t (omega (arith, e))

-- by the three counts
module _ (s : Shape) (a b c : ℕ) (fours-are : a ≡ length (of_width 4 0 s)) (twos-are : b ≡ length (of_width 2 0 s)) (ones-are : c ≡ length (of_width 1 0 s)) where
  pub form-count : a + b + c ≡ length (columns_of s)
  unfolding columns_of
  form-count = omega (arith, length-append (of_width 4 0 s) (of_width 2 0 s ++ of_width 1 0 s), length-append (of_width 2 0 s) (of_width 1 0 s), fours-are, twos-are, ones-are)

  pub form-wide : 0 < a → a + 32768 ≡ word_count s
  unfolding word_count
  form-wide h = rw (← fours-are, lt-ltb 0 a h)

  pub form-narrow : (0 < a → ⊥) → b ≡ word_count s
  unfolding word_count
  form-narrow h = rw (← fours-are, le-ltb 0 a (omega (arith, h))) twos-are
