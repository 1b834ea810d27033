-- D2: what goes in comes out, by what the job says (specs/SetsRead.antt has it by the job's bytes). Each set's row, found by its id and the map in the
-- lent memory, gives the set's value for every region of the store's list, and zero for one that it never named. Assumes nothing.
use Rattle.std.specs.Prelude.{◌≡◌, ◌⊎◌, List, [], ℕ, ◌+◌, ◌*◌, ◌<◌, length, get_or, take}
use Rattle.laws.specs.Signed.{value, zero_word}
use Rattle.sets.specs.Set.{Set, word_of}
use Rattle.reader.specs.Store.{Written, NoColumn, read_store, value_of, region_count}
use Rattle.said.specs.Job.{Said, fine}
use Rattle.finishing.specs.declared.answers.Report.{Report}
use Rattle.call.specs.Lending.{Lending}
use Rattle.call.specs.Build.{coords_in_use, outcome_of, after}
use Rattle.demands.specs.SetsRead.{listed}

-- region q of the store's list, in a row of a set's; `coords` has the coordinates of the regions in use
pub record RegionBack (axes : ℕ) (coords : List (List ℕ)) (s : Set) (store : List ℕ) (outer inner q : ℕ) : Type 0 where
  -- it is a region in use, with the coordinates of that one and of no other
  pub region : ℕ
  pub below : region < length coords
  pub coordinates : listed axes store q ≡ get_or coords region []
  pub only : (p : ℕ) → p < length coords → listed axes store q ≡ get_or coords p [] → p ≡ region
  -- it is read and never refused, and gives the set's value (V7); `word_of` has the word of zero where there is none
  pub answers : (read_store store outer inner q ≡ Written (value (word_of s region))) ⊎ (read_store store outer inner q ≡ NoColumn)
  pub gives_back : value_of (read_store store outer inner q) ≡ value (word_of s region)

-- region r in use is in the store's list
pub record InList (axes : ℕ) (coords : List (List ℕ)) (store : List ℕ) (r : ℕ) : Type 0 where
  pub index : ℕ
  pub below : index < region_count store
  pub coordinates : listed axes store index ≡ get_or coords r []

-- a set whose id has this map word
pub record SetBack (axes : ℕ) (coords : List (List ℕ)) (s : Set) (store : List ℕ) (word : ℕ) : Type 0 where
  -- F4
  pub outer : ℕ
  pub inner : ℕ
  pub outer_below : outer < 65536
  pub inner_below : inner < 65536
  pub word-is : word ≡ outer * 65536 + inner
  -- each region of the list
  pub regions : (q : ℕ) → q < region_count store → RegionBack axes coords s store outer inner q
  -- and no region that has another value than zero is missing there
  pub in_list : (r : ℕ) → r < length coords → (word_of s r ≡ zero_word → ⊥) → InList axes coords store r

-- of the lent memory alone: the output begins with the store, the id of set n is word n of ids, and its row is where the map's word of that id says
pub record Demand2 (c : Lending) (r : Report) : Type 0 where
  pub said : Said
  pub said-is : outcome_of c ≡ fine said
  pub sets-back : (n : ℕ) → n < length said.sets
      → SetBack c.axes (coords_in_use said) (get_or said.sets n []) (take r.bytes (after c).lent.out) (get_or (after c).lent.map (get_or (after c).lent.ids n 0) 0)
