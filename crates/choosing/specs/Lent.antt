-- What lent words hold of the rows that are still used: each word once, in order, grouped by its subtable. Assumes nothing.
use Rattle.std.specs.Prelude.{◌≡◌, Bool, not, ◌||◌, List, [], ◌∷◌, ℕ, ◌+◌, ◌-◌, ◌*◌, ◌/◌, ◌%◌, ◌≤◌, ◌<◌, length, take, get_or, eqb, leb}
use Rattle.laws.specs.LentRange.{Only}
use Rattle.laws.specs.Sorting.{sorted}

-- the first n words are in order
pub record InOrder (n : ℕ) (w : List ℕ) : Type 0 where
  pub at_most : (i j : ℕ) → i < j → j < n → get_or w i 0 ≤ get_or w j 0

-- the first k words rise
pub record Rising (k : ℕ) (w : List ℕ) : Type 0 where
  pub up : (i j : ℕ) → i < j → j < k → get_or w i 0 < get_or w j 0

-- the first k words name subtables that a store can have: it has at most 65,535
pub record Low (k : ℕ) (w : List ℕ) : Type 0 where
  pub top : (i : ℕ) → i < k → get_or w i 0 < 4294901760

-- x is one of the first k words
abbrev pub Within : ℕ → List ℕ → ℕ → Type 0
Within k w x = (a : ℕ) × (a < k) × (get_or w a 0 ≡ x)

-- the list stands at the front, in order, and all else is as it was
pub record TakenIn (rows old new : List ℕ) : Type 0 where
  pub only : Only ((0, length rows) ∷ []) old new
  -- all that is to be said of the words: each is there as often as it came. The other fields say what it means.
  pub is : take (length rows) new ≡ sorted leb rows
  pub order : InOrder (length rows) new
  pub from : (a : ℕ) → a < length rows → Within (length rows) rows (get_or new a 0)
  pub into : (j : ℕ) → j < length rows → Within (length rows) new (get_or rows j 0)

unfoldable pub is_new : List ℕ → ℕ → ℕ → Bool
is_new w k i = eqb k 0 || not (eqb (get_or w (k - 1) 0) (get_or w i 0))

-- of the first n words each is among the k that are left, which rise and are no others
pub record Once (n : ℕ) (old new : List ℕ) (k : ℕ) : Type 0 where
  pub most : k ≤ n
  pub only : Only ((0, n) ∷ []) old new
  pub rising : Rising k new
  pub from : (a : ℕ) → a < k → Within n old (get_or new a 0)
  pub into : (j : ℕ) → j < n → Within k new (get_or old j 0)

-- a subtable's number
abbrev pub outer : ℕ → ℕ
outer x = x / 65536

unfoldable pub opens : List ℕ → ℕ → Bool
opens w j = eqb j 0 || not (eqb (outer (get_or w (j - 1) 0)) (outer (get_or w j 0)))

-- k words W of t subtables: the rows of subtable g begin at S g and end before S (g + 1), and P is the place of each
pub record Groups (W P S : ℕ → ℕ) (k t : ℕ) : Type 0 where
  pub few : t ≤ k
  pub first : S 0 ≡ 0
  pub last : S t ≡ k
  pub up : (g : ℕ) → g < t → S g < S (g + 1)
  pub same : (g j : ℕ) → g < t → S g ≤ j → j < S (g + 1) → outer (W j) ≡ outer (W (S g))
  pub more : (g : ℕ) → g + 1 < t → outer (W (S g)) < outer (W (S (g + 1)))
  pub place : (g j : ℕ) → g < t → S g ≤ j → j < S (g + 1) → P j ≡ g * 65536 + (j - S g)
  pub low : (g j : ℕ) → g < t → S g ≤ j → j < S (g + 1) → (g ≤ W j / 65536) × (j - S g ≤ W j % 65536)
  pub at : (j : ℕ) → j < k → (g : ℕ) × (g < t) × (S g ≤ j) × (j < S (g + 1))

abbrev pub GroupsIn : ℕ → ℕ → List ℕ → ℕ → Type 0
GroupsIn n k w t = Groups (λ j. get_or w j 0) (λ j. get_or w (n + j) 0) (λ g. get_or w (2 * n + g) 0) k t

pub record Grouped (n k : ℕ) (old new : List ℕ) (t : ℕ) : Type 0 where
  pub only : Only ((n, 2 * n + 1) ∷ []) old new
  pub groups : GroupsIn n k new t

-- all of it
pub record ChosenAt (rows old new : List ℕ) (k t : ℕ) : Type 0 where
  pub only : Only ((0, 3 * length rows + 1) ∷ []) old new
  pub most : k ≤ length rows
  pub rising : Rising k new
  pub from : (a : ℕ) → a < k → Within (length rows) rows (get_or new a 0)
  pub into : (j : ℕ) → j < length rows → Within k new (get_or rows j 0)
  pub groups : GroupsIn (length rows) k new t

pub record FoundAt (k : ℕ) (w : List ℕ) (x r : ℕ) : Type 0 where
  pub in-range : r < k
  pub is : get_or w r 0 ≡ x

-- the place of each word of the list, and all else is as it was
pub record PlacesPut (k to : ℕ) (w rows old new : List ℕ) : Type 0 where
  pub only : Only ((0, length rows) ∷ []) old new
  pub is : (i a : ℕ) → i < length rows → a < k → get_or w a 0 ≡ get_or rows i 0 → get_or new i 0 ≡ get_or w (to + a) 0
