-- The final groups, made again from the words of origins (RULES F6): which starting groups went into each, and so its
-- shape, its rows and its subtables. Assumes nothing.
use Rattle.std.specs.Prelude.{◌≡◌, List, [], ◌∷◌, map, ℕ, ◌+◌, ◌-◌, ◌*◌, ◌<◌, min, eqb, length, get_or, take}
use Rattle.std.proofs.Math.Option.{Option, none, some}
use Rattle.laws.specs.Pick.{pick}
use Rattle.laws.specs.Bag.{weigh, sum}
use Rattle.shapes.specs.Shape.{Shape}
use Rattle.shapes.specs.Group.{Group, max_items}
use Rattle.rows.specs.Columns.{columns_of, word_count}
use Rattle.rows.specs.Subtable.{run_count_for}
use Rattle.groups.specs.Groups.{groups_of}
use Rattle.stores.specs.Stores.{Table, Parsed, parse}
use Rattle.store.specs.Placing.{new_index}
use Rattle.said.specs.Job.{Said, fine}
use Rattle.finishing.specs.declared.answers.Report.{Report}
use Rattle.call.specs.Lending.{Lending}
use Rattle.call.specs.Build.{packed_of, outcome_of, after}
use Rattle.sizes.specs.Sizes.{group_at, shapes_joined}

-- the starting groups that the words name for final group q: two words each, its number and the final group
unfoldable pub named_for : ℕ → List ℕ → List ℕ
named_for q [] = []
named_for q (i ∷ []) = []
named_for q (i ∷ p ∷ l) = pick (eqb p q) (i ∷ named_for q l) (named_for q l)

-- their shapes joined, and their sets together
unfoldable pub shape_back : List Group → List ℕ → ℕ → Shape
shape_back xs words q = shapes_joined xs (named_for q words)

unfoldable pub rows_back : List Group → List ℕ → ℕ → ℕ
rows_back xs words q = weigh (λ i. (group_at xs i).sets) (named_for q words)

-- how many subtables the final groups before q have (F3)
unfoldable pub tables_before : List Group → List ℕ → ℕ → ℕ
tables_before xs words q = sum (λ p. run_count_for (rows_back xs words p)) q

-- a subtable of a store has the columns of a shape (C1, C3), where `number` gives the new numbers of regions, and so many rows
pub record TableOf (number : ℕ → ℕ) (s : Shape) (rows : ℕ) (slot : Option Table) : Type 0 where
  pub table : Table
  pub here : slot ≡ some table
  pub word-is : table.word ≡ word_count s
  pub columns-are : table.columns ≡ map number (columns_of s)
  pub rows-many : length table.rows ≡ rows

-- Of starting groups xs, the words of origins, the subtables of a store, and how many final groups there are:
pub record Rebuilt (xs : List Group) (words : List ℕ) (number : ℕ → ℕ) (tables : List (Option Table)) (count : ℕ) : Type 0 where
  -- the words name every starting group once, in starting order, for one final group
  pub long : length words ≡ 2 * length xs
  pub numbered : (i : ℕ) → i < length xs → get_or words (2 * i) 0 ≡ i
  pub placed : (i : ℕ) → i < length xs → get_or words (2 * i + 1) 0 < count
  -- each final group has rows, and its subtables stand behind those of the groups before it: each has the columns of the
  -- joined shape, and together they have as many rows as the starting groups have sets
  pub some-rows : (q : ℕ) → q < count → 0 < rows_back xs words q
  pub tables-are : (q k : ℕ) → q < count → k < run_count_for (rows_back xs words q)
      → TableOf number (shape_back xs words q) (min max_items (rows_back xs words q - max_items * k)) (get_or tables (tables_before xs words q + k) none)
  -- there is no other subtable
  pub tables-all : length tables ≡ tables_before xs words count

-- A done build in mode 0: the output begins with a store, and the words that the lent origins begin with make every final
-- group again. There are N less the merges.
pub record Back (c : Lending) (r : Report) : Type 0 where
  pub said : Said
  pub said-is : outcome_of c ≡ fine said
  pub store : Parsed
  pub parsed : parse (take r.bytes (after c).lent.out) ≡ some store
  pub rebuilt : Rebuilt (groups_of (length said.used) said.sets) (take (2 * r.groups) (after c).lent.origins)
      (new_index (packed_of 0 said).finals) store.tables (r.groups - r.merges)
