-- The first place of a number in a list, counted from 0. Assumes nothing.
use Rattle.std.specs.Prelude.{List, [], ◌∷◌, ℕ, suc, eqb}
use Rattle.laws.specs.Pick.{pick}

-- as many as the list is long where it stands nowhere
unfoldable pub first_at : ℕ → List ℕ → ℕ
first_at x [] = 0
first_at x (y ∷ l) = pick (eqb y x) 0 (suc (first_at x l))
