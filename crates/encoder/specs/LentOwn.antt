-- What the functions of `src/owning.rt` leave in lent words. Assumes nothing.
use Rattle.std.specs.Prelude.{◌≡◌, List, [], ◌∷◌, ℕ, ◌+◌, ◌<◌, get_or}
use Rattle.laws.specs.LentRange.{Only}
use Rattle.shapes.specs.Group.{group_cost}

-- three words that fit: where a group's shape is, where its rows are, how many there are
pub record WordsFit (shape rows n : ℕ) : Type 0 where
  pub shape-few : shape < 4294967296
  pub rows_few : rows < 4294967296
  pub n-few : n < 4294967296

pub record WordsAt (group shape rows n : ℕ) (old new : List ℕ) : Type 0 where
  pub only : Only ((group, 3) ∷ []) old new
  pub shape_is : get_or new group 0 ≡ shape
  pub rows_is : get_or new (group + 1) 0 ≡ rows
  pub n-is : get_or new (group + 2) 0 ≡ n

-- what n sets cost that share a shape
unfoldable pub group_cost_of : List ℕ → ℕ → ℕ
group_cost_of s n = group_cost (record { shape = s; sets = n })
