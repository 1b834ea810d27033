-- What an answer says by the job's bytes: both sets are the job's, the index told is the first where what their value
-- records say differs, and the region is the one whose value record took that index (RULES J6, S1 to S3, F1). Assumes
-- nothing.
use Rattle.std.specs.Prelude.{◌≡◌, List, [], ℕ, ◌<◌, get_or}
use Rattle.laws.specs.Signed.{zero_word}
use Rattle.sets.specs.Set.{word_of}
use Rattle.said.specs.Records.{region_number, value_as_word, record_at, record_count}
use Rattle.said.specs.Job.{Said}
use Rattle.told.specs.Told.{ends_before, ValueIn, index_of, FirstUse, Unnamed}

-- v is the word of set n at index r: that of its value record of a region of this index, and that of zero where it has none
pub record WordAt (axes : ℕ) (job : List ℕ) (s : Said) (n r v : ℕ) : Type 0 where
  pub word-is : v ≡ word_of (get_or s.sets n []) r
  pub given : (i : ℕ) → ValueIn job n i → index_of s (region_number (record_at job i)) ≡ r → v ≡ value_as_word (record_at job i)
  pub unnamed : Unnamed axes job s n r → v ≡ zero_word

-- sets x and y are sets of the job: it has a set for each end record
pub record BothSets (job : List ℕ) (x y : ℕ) : Type 0 where
  pub first-in : x < ends_before job (record_count job)
  pub second-in : y < ends_before job (record_count job)

-- they part at index r, which region p used first, with the words v and u
pub record PartTold (axes : ℕ) (job : List ℕ) (s : Said) (x y r p v u : ℕ) : Type 0 where
  pub sets-in : BothSets job x y
  pub agree : (k : ℕ) → k < r → word_of (get_or s.sets x []) k ≡ word_of (get_or s.sets y []) k
  pub left : WordAt axes job s x r v
  pub right : WordAt axes job s y r u
  pub first-use : FirstUse job (record_count job) s r
  pub region-is : p ≡ region_number (record_at job first-use.place)
