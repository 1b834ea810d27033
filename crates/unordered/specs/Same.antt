-- The order of glyphs does not show (RULES U1): what is asked of two jobs, and what is promised of their builds.
-- Assumes nothing.
use Rattle.std.specs.Prelude.{◌≡◌, ℕ, ◌*◌, ◌<◌, length, get_or, take}
use mathlib.Core.List.{[], Memᴰ}
use Rattle.sets.specs.Set.{Set}
use Rattle.said.specs.Job.{Said}
use Rattle.finishing.specs.declared.answers.Report.{Report}
use Rattle.finishing.specs.Late.{store_for}
use Rattle.call.specs.Lending.{Lending}
use Rattle.call.specs.Build.{coords_in_use, packed_of, after}

-- What two jobs say: the same regions by region index, which is by first use, and each set of the one is a set of the other.
pub record SameSets (s t : Said) : Type 0 where
  -- the regions in use have equal coordinates, index by index
  pub regions-same : coords_in_use s ≡ coords_in_use t
  -- each set of the one is a set of the other, however often
  pub there : (x : Set) → Memᴰ x s.sets → Memᴰ x t.sets
  pub back : (x : Set) → Memᴰ x t.sets → Memᴰ x s.sets

-- ---- one build

-- where set n is: the n-th word of ids is its id, and the map has the id's word
abbrev pub place_of : Lending → ℕ → ℕ
place_of a n = get_or (after a).lent.map (get_or (after a).lent.ids n 0) 0

-- ---- two of them give the same, where they say s and t and report c and d

pub record SameBuild (a b : Lending) (s t : Said) (c d : Report) : Type 0 where
  -- the counts (A1), all ten
  pub counts : c ≡ d
  -- the bytes of the store, of the definition and of what lies in the lent output
  pub store : store_for a.axes (coords_in_use s) (packed_of 0 s) ≡ store_for b.axes (coords_in_use t) (packed_of 0 t)
  pub store_is : take c.bytes (after a).lent.out ≡ store_for a.axes (coords_in_use s) (packed_of 0 s)
  pub out : take c.bytes (after a).lent.out ≡ take d.bytes (after b).lent.out
  -- the log (M5), an entry of three words a merge
  pub log : take (3 * c.merges) (after a).lent.log ≡ take (3 * d.merges) (after b).lent.log
  -- the origins (F6), two words a starting group
  pub origins : take (2 * c.groups) (after a).lent.origins ≡ take (2 * d.groups) (after b).lent.origins
  -- a set that is in both has one place
  pub places : (x y : ℕ) → x < length s.sets → y < length t.sets → get_or s.sets x [] ≡ get_or t.sets y []
      → place_of a x ≡ place_of b y
