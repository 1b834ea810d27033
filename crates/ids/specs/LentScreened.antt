-- What screening n sets leaves. Assumes nothing.
use Rattle.std.specs.Prelude.{◌≡◌, List, [], ◌∷◌, ℕ, ◌+◌, ◌≤◌, ◌<◌, get_or}
use Rattle.laws.specs.LentRange.{Only, seg}
use Rattle.laws.specs.Bounded.{up_to}
use Rattle.laws.specs.Sorting.{keep}
use Rattle.sets.specs.Lent.{set_of}
use Rattle.buckets.specs.LentBuckets.{is_kept}

-- m numbers are to be sorted, and stand in front
pub record Screened (index n at first seen : ℕ) (old new : List ℕ) (m : ℕ) : Type 0 where
  pub only : Only ((at, n) ∷ (first, n) ∷ (seen, n) ∷ []) old new
  pub few : m ≤ n
  pub line : seg at m new ≡ keep (is_kept first new) (up_to n)
  pub rest : (q : ℕ) → m ≤ q → q < n → (get_or new (at + q) 0 < n) × (get_or new (first + get_or new (at + q) 0) 0 < get_or new (at + q) 0)
  pub noted : (k : ℕ) → k < n → (get_or new (first + k) 0 ≡ k → ⊥) → (get_or new (first + k) 0 < k) × (set_of index (get_or new (first + k) 0) old ≡ set_of index k old)
