-- The loop that turns numbers of regions into where their coordinates start. Assumes nothing.
use mathlib.Core.Path.{◌≡◌, refl, ap, ◌∙◌}
use mathlib.Core.List.{List, [], ◌∷◌}
use Prim.Native.Nat.{ℕ, ◌+◌, ◌≤◌, ◌<◌}
use native.Mathlib.Omega.{arith}
use borrow.Author.Count.{below_more}
use lib.ListN.{length, get_or, set}
use lib.Seq.{get_or-set_same, get_or-set_other}
use Rattle.laws.specs.LentRange.{Only}
use Rattle.laws.proofs.RangeLaws.{only-refl, only-trans, only_set}
use Rattle.said.specs.Records.{coordinates_start}
use Rattle.limits.specs.Limits.{max_regions}
use Rattle.opening.specs.LentCollected.{StartsAt}

pub record Starting (at n axes : ℕ) (old new : List ℕ) (i : ℕ) : Type 0 where
  pub within : i ≤ n
  pub only : Only ((at, n) ∷ []) old new
  pub done : (j : ℕ) → j < i → get_or new (at + j) 0 ≡ coordinates_start axes (get_or old (at + j) 0)
  pub left : (j : ℕ) → i ≤ j → get_or new (at + j) 0 ≡ get_or old (at + j) 0

module _ {at n axes : ℕ} {old : List ℕ} (room : at + n ≤ length old) where
  pub starts-begin : Starting at n axes old old 0
  starts-begin = record { within = omega arith; only = only-refl ((at, n) ∷ []) old; done = λ j h. absurd (omega arith); left = λ j h. refl }

  module _ {new : List ℕ} {i : ℕ} (s : Starting at n axes old new i) where
    pub start_word : get_or new (at + i) 0 ≡ get_or old (at + i) 0
    start_word = s.left i (omega arith)

    pub starts_more : i < n → (q : ℕ) → q ≡ get_or new (at + i) 0 → (v : ℕ) → v ≡ coordinates_start axes q → Starting at n axes old (set new (at + i) v) (i + 1)
    starts_more h q e v is =
        record {
          within = omega arith;
          only = only-trans s.only (only_set ((at, n) ∷ []) new (at + i) v (λ o. omega (arith, o.0.apart (omega arith))));
          done = below_more _ _
              (λ j l. get_or-set_other new (at + i) (at + j) v 0 (omega arith) ∙ s.done j l)
              (get_or-set_same new (at + i) v 0 (omega (arith, s.only.long)) ∙ is ∙ ap (coordinates_start axes) (e ∙ start_word));
          left = λ j l. get_or-set_other new (at + i) (at + j) v 0 (omega arith) ∙ s.left j (omega arith);
        }

    pub starts-done : n ≤ i → StartsAt at n axes old new
    starts-done h = record { only = s.only; is = λ j l. s.done j (omega arith) }

    pub start-low : ((j : ℕ) → j < n → get_or old (at + j) 0 < max_regions) → i < n → (q : ℕ) → q ≡ get_or new (at + i) 0 → q < max_regions
    start-low low h q e = rw (e, start_word) (low i h)
