-- What a taken job says, by its bytes: each value record's word stands in its set, at its region's index, and nothing
-- else does (RULES J1, J4 to J6, S1 to S3). Assumes nothing.
use Rattle.std.specs.Prelude.{◌≡◌, List, [], ℕ, zero, suc, ◌*◌, ◌≤◌, ◌<◌, length, get_or, drop, eqb}
use Rattle.laws.specs.Pick.{pick}
use Rattle.laws.specs.Signed.{zero_word}
use Rattle.sets.specs.Set.{word_of}
use Rattle.said.specs.Records.{record_bytes, kind, value_kind, end_kind, region_number, value_as_word, record_at, record_count}
use Rattle.said.specs.Sets.{Region, coordinates, first_like, index_in}
use Rattle.said.specs.Job.{Said}

-- how many of the first i records are of a kind, and how many end a set
unfoldable pub count_kind : ℕ → List ℕ → ℕ → ℕ
count_kind k job zero = 0
count_kind k job (suc i) = pick (eqb (kind (record_at job i)) k) (suc (count_kind k job i)) (count_kind k job i)

abbrev pub ends_before : List ℕ → ℕ → ℕ
ends_before job i = count_kind end_kind job i

-- record i is a value record of set n, where the end record of set n is the one with n end records before it
pub record ValueIn (job : List ℕ) (n i : ℕ) : Type 0 where
  pub within : i < record_count job
  pub is-value : kind (record_at job i) ≡ value_kind
  pub in-set : ends_before job i ≡ n

-- the coordinates of region p, from its axis records: each region has one an axis, and they stand first in the job
abbrev pub coordinates_at : ℕ → List ℕ → ℕ → Region
coordinates_at axes job p = coordinates axes (drop (p * (record_bytes * axes)) job)

-- the index of region p: that of the first region like it among the regions in use
abbrev pub index_of : Said → ℕ → ℕ
index_of s p = index_in (first_like s.regions p) s.used

-- indexes go by first use: of the first i records a value record names the region of index r, and each value record before it one of a smaller index
pub record FirstUse (job : List ℕ) (i : ℕ) (s : Said) (r : ℕ) : Type 0 where
  pub place : ℕ
  pub within : place < i
  pub is-value : kind (record_at job place) ≡ value_kind
  pub index_is : index_of s (region_number (record_at job place)) ≡ r
  pub earlier : (j : ℕ) → j < place → kind (record_at job j) ≡ value_kind → index_of s (region_number (record_at job j)) < r

-- what value record i of set n gives
pub record Given (axes : ℕ) (job : List ℕ) (s : Said) (n i : ℕ) : Type 0 where
  -- its set has ended
  pub set_ended : n < length s.sets
  -- the region that it names has its axis records
  pub region-known : region_number (record_at job i) < length s.regions
  -- and is in use, by a zero too
  pub index_below : index_of s (region_number (record_at job i)) < length s.used
  -- the region in use may be another one of the same coordinates
  pub coordinates-are : coordinates_at axes job (get_or s.used (index_of s (region_number (record_at job i))) 0) ≡ coordinates_at axes job (region_number (record_at job i))
  -- the set has the word of the record's value there, that of zero for a zero
  pub word-is : word_of (get_or s.sets n []) (index_of s (region_number (record_at job i))) ≡ value_as_word (record_at job i)

-- no value record of set n names a region with the coordinates of the region in use at index r
abbrev pub Unnamed : ℕ → List ℕ → Said → ℕ → ℕ → Type 0
Unnamed axes job s n r =
    (i : ℕ) → ValueIn job n i → coordinates_at axes job (region_number (record_at job i)) ≡ coordinates_at axes job (get_or s.used r 0) → ⊥

-- what a taken job says
pub record Told (axes : ℕ) (job : List ℕ) (s : Said) : Type 0 where
  -- a set for each end record
  pub sets-are : length s.sets ≡ ends_before job (record_count job)
  -- coordinates as the axis records have them
  pub regions-are : (p : ℕ) → p < length s.regions → get_or s.regions p [] ≡ coordinates_at axes job p
  -- a region in use is one of them
  pub used-known : (r : ℕ) → r < length s.used → get_or s.used r 0 < length s.regions
  -- no two in use are equal
  pub used-apart : (q r : ℕ) → q < length s.used → r < length s.used
      → coordinates_at axes job (get_or s.used q 0) ≡ coordinates_at axes job (get_or s.used r 0) → q ≡ r
  -- each index goes to a region's first use, a zero too
  pub first-use : (r : ℕ) → r < length s.used → FirstUse job (record_count job) s r
  -- every value record is in its set
  pub given : (n i : ℕ) → ValueIn job n i → Given axes job s n i
  -- a region that the set's records do not name has the word of zero
  pub unnamed : (n r : ℕ) → n < length s.sets → r < length s.used → Unnamed axes job s n r → word_of (get_or s.sets n []) r ≡ zero_word
  -- and so has an index that no region has
  pub past : (n r : ℕ) → n < length s.sets → length s.used ≤ r → word_of (get_or s.sets n []) r ≡ zero_word
