-- A shape as three numbers, its planes. Bit r of the plane of t is 1 where region r costs at least t, for t = 1, 2 and 4.
-- Bit r lies in word r / 32, as its bit r % 32, the lowest bit first. Assumes nothing.
use Rattle.std.specs.Prelude.{◌≡◌, List, [], ◌∷◌, ◌++◌, ℕ, ◌+◌, ◌*◌, ◌/◌, ◌%◌, ◌^◌, ◌≤◌, ltb}
use Rattle.laws.specs.Pick.{pick}
use Rattle.laws.specs.Bounded.{tabulate}
use Rattle.shapes.specs.Shape.{Shape}

-- the cost of a width: 0, 1, 2 or 4
pub record IsCost (w : ℕ) : Type 0 where
  pub most : w ≤ 4
  pub not_three : w ≡ 3 → ⊥

-- 1 where a region of cost w costs at least t
unfoldable pub at_least : ℕ → ℕ → ℕ
at_least t w = pick (ltb w t) 0 1

unfoldable pub plane : ℕ → Shape → ℕ
plane t [] = 0
plane t (w ∷ s) = plane t s * 2 + at_least t w

-- bit j of a number
unfoldable pub bit : ℕ → ℕ → ℕ
bit x j = x / 2 ^ j % 2

-- word k of a number: its bits 32 * k up to 32 * k + 31
unfoldable pub word : ℕ → ℕ → ℕ
word x k = x / 2 ^ (32 * k) % 2 ^ 32

-- how many regions cost at least t
unfoldable pub wide : ℕ → Shape → ℕ
wide t [] = 0
wide t (w ∷ s) = at_least t w + wide t s

-- the planes of a shape, n words each
unfoldable pub planes : ℕ → Shape → List ℕ
planes n s = tabulate 0 n (word (plane 1 s)) ++ (tabulate 0 n (word (plane 2 s)) ++ tabulate 0 n (word (plane 4 s)))

-- the words of a plane of so many regions, and those of the three
unfoldable pub plane_length : ℕ → ℕ
plane_length r = (r + 31) / 32

unfoldable pub plane_words : ℕ → ℕ
plane_words r = 3 * plane_length r
