-- What the clauses of private functions cite. Assumes nothing.
use Rattle.std.specs.Prelude.{◌≡◌, List, ℕ, ◌+◌, ◌-◌, ◌*◌, ◌≤◌, ◌<◌}
use Rattle.sets.specs.Order.{parting, by_words}
use Rattle.sets.specs.Lent.{entries}

-- one step of the walk: the two words to compare next, their region, and how many entries of each set they take
pub record Next (w : List ℕ) (a m b n r v u da db : ℕ) : Type 0 where
  pub some : 0 < da + db
  pub left : da ≤ m
  pub right : db ≤ n
  pub rest : parting (entries a m w) (entries b n w) ≡ by_words r v u (parting (entries (a + 2 * da) (m - da) w) (entries (b + 2 * db) (n - db) w))
