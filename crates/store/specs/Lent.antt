-- What the clauses of `src/` say of lent words and bytes: the store. Assumes nothing.
use Rattle.std.specs.Prelude.{◌≡◌, Bool, not, eqb, List, [], ◌∷◌, ◌++◌, map, ℕ, ◌+◌, ◌-◌, ◌*◌, ◌≤◌, ◌<◌, min, length, get_or, set}
use Rattle.laws.specs.Pick.{pick}
use Rattle.limits.specs.Limits.{most_records, most_axes, max_regions, max_shapes}
use Rattle.said.specs.Records.{axis_coordinates, coords_long}
use Rattle.laws.specs.Bag.{weigh}
use Rattle.laws.specs.Bytes.{bytes_of}
use Rattle.reader.specs.Store.{column_start}
use Rattle.rows.specs.Columns.{columns_of, word_count}
use Rattle.rows.specs.Row.{Set}
use Rattle.laws.specs.Bounded.{tabulate, up_to}
use Rattle.shapes.specs.Shape.{Shape}
use Rattle.shapes.specs.Group.{max_items}
use Rattle.laws.specs.LentRange.{Only, seg}
use Rattle.laws.specs.Every.{All}
use Rattle.laws.specs.Sorting.{keep}
use Rattle.laws.specs.Joining.{join_all}
use Rattle.rows.specs.Subtable.{run_count_for}
use Rattle.rows.specs.Lent.{Put, Stored, runs_bytes}
use Rattle.stores.specs.Stores.{slot_bytes}
use Rattle.store.specs.Placing.{Final, id_words, names, slot_of, stored}

-- f at each number below n, one after the other
unfoldable pub chain : (ℕ → List ℕ) → ℕ → List ℕ
chain f n = join_all (tabulate 0 n f)

-- the group whose three words stand at group: where its shape is, where its ids are, how many there are
unfoldable pub final_at : ℕ → List ℕ → ℕ → Final
final_at regions w group = record {
  shape = seg (get_or w group 0) regions w;
  ids = seg (get_or w (group + 1) 0) (get_or w (group + 2) 0) w;
}

-- all of that group lies in w
pub record Handed (regions index : ℕ) (w : List ℕ) (group : ℕ) : Type 0 where
  pub row : group + 3 ≤ length w
  pub shape : get_or w group 0 + regions ≤ length w
  pub ids : get_or w (group + 1) 0 + get_or w (group + 2) 0 ≤ length w
  pub sets : All (Stored index w) (seg (get_or w (group + 1) 0) (get_or w (group + 2) 0) w)

-- the bytes of one subtable
unfoldable pub subtable_of : (ℕ → ℕ) → (ℕ → Set) → Shape → List ℕ → List ℕ
subtable_of number set s xs = slot_bytes (slot_of number set s xs)

-- the subtables of one group
unfoldable pub group_bytes : (ℕ → ℕ) → (ℕ → Set) → Final → List ℕ
group_bytes number set g = runs_bytes (subtable_of number set g.shape) g.ids

-- the groups whose words stand from groups on
unfoldable pub finals_at : ℕ → ℕ → ℕ → List ℕ → List Final
finals_at regions groups n w = tabulate 0 n (λ g. final_at regions w (groups + 3 * g))

-- a region is marked
abbrev pub marked_in : List ℕ → ℕ → Bool
marked_in marks r = not (eqb (get_or marks r 0) 0)

-- the regions that have a width in the shape were marked, and no others
pub record Named (s old new : List ℕ) : Type 0 where
  pub long : length new ≡ length old
  pub some : (r : ℕ) → r < length s → (get_or s r 0 ≡ 0 → ⊥) → get_or new r 0 ≡ 1
  pub none : (r : ℕ) → get_or s r 0 ≡ 0 → get_or new r 0 ≡ get_or old r 0

-- the same of a shape and of marks that stand in the words
pub record NamedIn (shape regions marks : ℕ) (old new : List ℕ) : Type 0 where
  pub only : Only ((marks, regions) ∷ []) old new
  pub named : Named (seg shape regions old) (seg marks regions old) (seg marks regions new)

-- the regions that the groups name are marked, and no others
pub record Marks (gs : List Final) (marks : List ℕ) : Type 0 where
  pub is : (r : ℕ) → marked_in marks r ≡ names r gs

-- each region's new number is how many marked ones stand before it
pub record Numbered (marks : List ℕ) (regions : ℕ) (numbers : List ℕ) (kept : ℕ) : Type 0 where
  pub at : (r : ℕ) → r < regions → get_or numbers r 0 ≡ length (keep (marked_in marks) (up_to r))
  pub all : kept ≡ length (keep (marked_in marks) (up_to regions))

-- the same of marks and of numbers that stand in the words
pub record NumberedIn (marks numbers regions : ℕ) (old new : List ℕ) (kept : ℕ) : Type 0 where
  pub only : Only ((numbers, regions) ∷ []) old new
  pub numbered : Numbered (seg marks regions old) regions (seg numbers regions new) kept

-- the coordinates of a region's axes, that stand in a source from a place on, as in the axis records of a job
unfoldable pub coords_at : List ℕ → ℕ → ℕ → List ℕ
coords_at src axes from = chain (λ a. seg (axis_coordinates from a) coords_long src) axes

-- they lie in the source
pub record Sourced (axes : ℕ) (src : List ℕ) (from : ℕ) : Type 0 where
  pub inside : (a : ℕ) → a < axes → axis_coordinates from a + coords_long ≤ length src

-- those of some regions, whose places stand in w from starts on
unfoldable pub kept_bytes : List ℕ → ℕ → List ℕ → ℕ → List ℕ → List ℕ
kept_bytes src axes w starts rs = join_all (map (λ r. coords_at src axes (get_or w (starts + r) 0)) rs)

abbrev pub list_bytes : ℕ → ℕ → List ℕ → List ℕ
list_bytes axes kept coords = bytes_of 2 axes ++ (bytes_of 2 kept ++ coords)

-- ---- sizes

-- the bytes of a subtable of n columns and rows of `row` bytes
unfoldable pub subtable_size : ℕ → ℕ → ℕ → ℕ
subtable_size n row items = pick (eqb items 0) 0 (6 + 2 * n + items * row)

-- of each run of a group of so many sets
unfoldable pub run_sizes : ℕ → ℕ → ℕ → List ℕ
run_sizes n row count = tabulate 0 (run_count_for count) (λ k. subtable_size n row (min max_items (count - max_items * k)))

unfoldable pub group_sizes : Final → List ℕ
group_sizes g = run_sizes (length (columns_of g.shape)) (column_start (word_count g.shape) (length (columns_of g.shape))) (length g.ids)

-- of each subtable of the groups
unfoldable pub sizes_at : ℕ → ℕ → ℕ → List ℕ → List ℕ
sizes_at regions groups n w = chain (λ g. group_sizes (final_at regions w (groups + 3 * g))) n

abbrev pub sum_of : List ℕ → ℕ
sum_of l = weigh (λ (x : ℕ). x) l

-- how much they are together, and how many
pub record Summed (sizes : List ℕ) (bytes runs : ℕ) : Type 0 where
  pub bytes-is : bytes ≡ sum_of sizes
  pub runs-is : runs ≡ length sizes

-- the numbers are those of the group's rows
pub record FormOf (g : Final) (word count : ℕ) : Type 0 where
  pub word-is : word ≡ word_count g.shape
  pub count-is : count ≡ length (columns_of g.shape)
  pub word_below : word < 65536
  pub count_most : count ≤ max_regions

-- the group whose words stand at group has no more sets than a job has records
pub record Small (w : List ℕ) (group : ℕ) : Type 0 where
  pub few : get_or w (group + 2) 0 ≤ most_records

-- the offset that is written for a subtable of a size: 0 for a null one
unfoldable pub spot_of : ℕ → ℕ → ℕ
spot_of at size = pick (eqb size 0) 0 at

-- the offsets of subtables of these sizes, the first one's being at
unfoldable pub spots_of : ℕ → List ℕ → List ℕ
spots_of at [] = []
spots_of at (l ∷ ls) = bytes_of 4 (spot_of at l) ++ spots_of (at + l) ls

-- offsets were put, and the next subtable would begin at next
pub record Spotted (at first : ℕ) (sizes old new : List ℕ) (r next : ℕ) : Type 0 where
  pub put : Put at (spots_of first sizes) old new r
  pub next-is : next ≡ first + sum_of sizes

-- the coordinates of all regions
unfoldable pub coords_in : List ℕ → ℕ → List ℕ → ℕ → ℕ → List (List ℕ)
coords_in src axes w starts regions = tabulate 0 regions (λ r. coords_at src axes (get_or w (starts + r) 0))

-- ---- the whole store

abbrev pub header_bytes : ℕ → List ℕ
header_bytes runs = bytes_of 2 1 ++ (bytes_of 4 (8 + 4 * runs) ++ bytes_of 2 runs)

-- groups, sets and coordinates lie in what is lent, within the bounds of J3 and R10
pub record Ready (src : List ℕ) (axes starts : ℕ) (w : List ℕ) (regions groups count index : ℕ) : Type 0 where
  pub axes-most : axes ≤ most_axes
  pub regions-most : regions ≤ max_regions
  pub groups-most : count ≤ max_shapes
  pub rows : groups + 3 * count ≤ length w
  pub starting : starts + regions ≤ length w
  pub handed : (g : ℕ) → g < count → Handed regions index w (groups + 3 * g)
  pub small : (g : ℕ) → g < count → Small w (groups + 3 * g)
  pub sourced : (r : ℕ) → r < regions → Sourced axes src (get_or w (starts + r) 0)

-- the regions that are kept, their numbers, and how many subtables there are; offsets fit 32 bits
pub record Planned (axes : ℕ) (w : List ℕ) (regions groups count : ℕ) (marks numbers : List ℕ) (runs kept : ℕ) : Type 0 where
  pub marks-room : regions ≤ length marks
  pub numbers-room : regions ≤ length numbers
  pub marked : Marks (finals_at regions groups count w) marks
  pub numbered : Numbered marks regions numbers kept
  pub runs-is : runs ≡ length (sizes_at regions groups count w)
  pub runs-few : runs < 65536
  pub short : 8 + 4 * runs + (4 + 6 * axes * kept) + sum_of (sizes_at regions groups count w) < 4294967296

-- the same, worked out before anything is written, and the bytes that the store takes
pub record Drafted (axes : ℕ) (w : List ℕ) (regions groups count : ℕ) (marks numbers : List ℕ) (bytes runs kept : ℕ) : Type 0 where
  pub marks-room : regions ≤ length marks
  pub numbers-room : regions ≤ length numbers
  pub marked : Marks (finals_at regions groups count w) marks
  pub numbered : Numbered marks regions numbers kept
  pub runs-is : runs ≡ length (sizes_at regions groups count w)
  pub runs-few : runs < 65536
  pub bytes-is : bytes ≡ 8 + 4 * runs + (4 + 6 * axes * kept) + sum_of (sizes_at regions groups count w)

-- ---- the map

-- the ids of these runs have their words, and what follows is at position r
pub record Mapped (first : ℕ) (rs : List Final) (old new : List ℕ) (r : ℕ) : Type 0 where
  pub is : new ≡ stored (id_words first rs) old
  pub next : r ≡ first + length rs

-- the ids of the group whose words stand at group are below n
pub record IdsBelow (n : ℕ) (w : List ℕ) (group : ℕ) : Type 0 where
  pub below : All (λ x. x < n) (seg (get_or w (group + 1) 0) (get_or w (group + 2) 0) w)
