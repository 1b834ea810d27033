-- What a job says: its regions, and their indexes; its sets (RULES S1 to S3).
use Rattle.std.specs.Prelude.{Bool, true, false, ◌&&◌, ◌||◌, List, [], ◌∷◌, ◌++◌, ℕ, zero, suc, get_or, eqb, ltb}
use Rattle.laws.specs.Pick.{pick}
use Rattle.laws.specs.Signed.{zero_word}
use Rattle.sets.specs.Set.{Set}
use Rattle.said.specs.Records.{after_record, after_region, start_of, peak_of, end_of}

-- ---- regions

-- a region's coordinates: start, peak and end at each axis, whatever they are (J5)
abbrev pub Region : Type 0
Region = List ℕ

-- of n axis records
unfoldable pub coordinates : ℕ → List ℕ → Region
coordinates zero rest = []
coordinates (suc n) rest = start_of rest ∷ peak_of rest ∷ end_of rest ∷ coordinates n (after_record rest)

-- so many regions, an axis record for each axis
unfoldable pub region_list : ℕ → ℕ → List ℕ → List Region
region_list axes zero rest = []
region_list axes (suc n) rest = coordinates axes rest ∷ region_list axes n (after_region axes rest)

-- equal regions have equal coordinates (S1)
unfoldable pub same_region : Region → Region → Bool
same_region [] [] = true
same_region [] (y ∷ b) = false
same_region (x ∷ a) [] = false
same_region (x ∷ a) (y ∷ b) = eqb x y && same_region a b

unfoldable pub like : Region → List Region → ℕ
like c [] = 0
like c (d ∷ l) = pick (same_region c d) 0 (suc (like c l))

-- the first region that equals region r: it stands for all of them
unfoldable pub first_like : List Region → ℕ → ℕ
first_like regions r = like (get_or regions r []) regions

-- ---- region indexes

unfoldable pub has : ℕ → List ℕ → Bool
has q [] = false
has q (p ∷ l) = eqb q p || has q l

-- Indexes go by first use, also by a zero (S2). The regions in use, by index:
unfoldable pub with_use : List ℕ → ℕ → List ℕ
with_use used q = pick (has q used) used (used ++ (q ∷ []))

-- the index of a region in use
unfoldable pub index_in : ℕ → List ℕ → ℕ
index_in q [] = 0
index_in q (p ∷ l) = pick (eqb q p) 0 (suc (index_in q l))

-- ---- sets

-- an entry in its place by region index
unfoldable pub with_entry : ℕ → ℕ → Set → Set
with_entry k w [] = (k, w) ∷ []
with_entry k w (e ∷ s) = pick (ltb k e.0) ((k, w) ∷ e ∷ s) (e ∷ with_entry k w s)

-- No zeros, in rising order of region index (S3). The word w of a value for region index k goes into a set:
unfoldable pub with_value : ℕ → ℕ → Set → Set
with_value k w s = pick (eqb w zero_word) s (with_entry k w s)
