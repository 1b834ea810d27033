-- What the clauses of private functions cite. Assumes nothing.
use Rattle.std.specs.Prelude.{◌≡◌, true, List, [], ◌∷◌, ℕ, ◌+◌, ◌*◌, ◌≤◌, ◌<◌, length, get_or}
use Rattle.laws.specs.Pick.{pick}
use Rattle.laws.specs.LentRange.{Only}
use Rattle.laws.specs.Sorting.{rank}
use Rattle.reader.specs.Store.{region_count}
use Rattle.stores.specs.Stores.{is_whole_ok, store_at}
use Rattle.stores.specs.Dropping.{named}
use Rattle.cutting.specs.LentCut.{tables_of}
use Rattle.keeping.specs.Keeping.{all_there}
use Rattle.choosing.specs.Lent.{Rising, Within, GroupsIn}

-- work has the entries of the list in order, each once, and grouped by subtable
pub record Words (rows w : List ℕ) (k t : ℕ) : Type 0 where
  pub most : k ≤ length rows
  pub rising : Rising k w
  pub from : (a : ℕ) → a < k → Within (length rows) rows (get_or w a 0)
  pub into : (j : ℕ) → j < length rows → Within k w (get_or rows j 0)
  pub groups : GroupsIn (length rows) k w t

-- each region that t subtables name has its number plus 1, and any other 0
pub record RegionsNamed (s : List ℕ) (n t : ℕ) (old new : List ℕ) (k : ℕ) : Type 0 where
  pub only : Only ((3 * n + 1, region_count s) ∷ []) old new
  pub is : (r : ℕ) → r < region_count s → get_or new (3 * n + 1 + r) 0 ≡ pick (named (tables_of s n old t) r) (rank (named (tables_of s n old t)) r + 1) 0
  pub count : k ≡ rank (named (tables_of s n old t)) (region_count s)

-- a store that is well formed, entries that are rows of it, and room for work and places
pub record Sound (s rows w : List ℕ) (places : ℕ) : Type 0 where
  pub ok : is_whole_ok s ≡ true
  pub there : all_there (store_at s) rows ≡ true
  pub work-room : 3 * length rows + 65536 ≤ length w
  pub place-room : length rows ≤ places
