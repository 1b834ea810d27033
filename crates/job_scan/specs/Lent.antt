-- What lent words hold of a job's regions, and of its sets: the promises of `src/`, which no reader of docs/RULES.md
-- needs.
use Rattle.std.specs.Prelude.{◌≡◌, Bool, true, false, List, [], ◌∷◌, ℕ, suc, ◌+◌, ◌-◌, ◌*◌, ◌/◌, ◌≤◌, ◌<◌, length, get_or, Result, MatchResult}
use Rattle.refusals.specs.declared.Refusal.{Refusal}
use Rattle.refusals.specs.declared.Refused.{Refused}
use Rattle.refusals.specs.Refusals.{number}
use Rattle.laws.specs.Every.{All}
use Rattle.laws.specs.LentRange.{Only}
use Rattle.sets.specs.Set.{Set}
use Rattle.sets.specs.Lent.{entries, entries_at, count_of}
use Rattle.said.specs.Records.{record_at, region_from}
use Rattle.said.specs.Job.{Said, in_sets, stop, on, regions_only, step, Outcome, refused, fine, records_from}
use Rattle.values.specs.declared.tables.SetTables.{SetTables}
use Rattle.said.specs.Sets.{Region, coordinates, region_list, first_like}
use Rattle.values.specs.Lent.{Holds, ValueFits}
use Rattle.limits.specs.Limits.{most_records}
use Rattle.job_scan.specs.declared.reading.SetCounts.{SetCounts}
use Rattle.job_scan.specs.declared.reading.SoFar.{SoFar}

-- a region as a set: its coordinates by their numbers, from k on
unfoldable pub as_set : ℕ → Region → Set
as_set k [] = []
as_set k (x ∷ c) = (k, x) ∷ as_set (suc k) c

-- the n coordinates of a region stand as a set from `at` on
pub record RegionAt (at n : ℕ) (c : Region) (old new : List ℕ) : Type 0 where
  pub only : Only ((at, 2 * n) ∷ []) old new
  pub is : entries at n new ≡ as_set 0 c
  pub small : All (λ x. x < 65536) c

-- so many regions stand as sets: rows from `index` on, entries from `body` on
pub record RegionsAt (index body axes regions : ℕ) (job old new : List ℕ) : Type 0 where
  pub only : Only ((index, 2 * regions) ∷ (body, regions * (6 * axes)) ∷ []) old new
  pub start : (x : ℕ) → x < regions → entries_at index x new ≡ body + x * (6 * axes)
  pub count : (x : ℕ) → x < regions → count_of index x new ≡ 3 * axes
  pub is : (x : ℕ) → x < regions → entries (body + x * (6 * axes)) (3 * axes) new ≡ as_set 0 (coordinates axes (region_from axes job x))
  pub small : (x : ℕ) → x < regions → All (λ y. y < 65536) (coordinates axes (region_from axes job x))

-- for each region the first like it: words from `index` on are scratch, and the firsts stand from `first` on
pub record FirstsOf (index first axes regions : ℕ) (job old new : List ℕ) : Type 0 where
  pub only : Only ((index, 5 * regions + regions * (6 * axes)) ∷ []) old new
  pub is : (k : ℕ) → k < regions → get_or new (first + k) 0 ≡ first_like (region_list axes regions job) k

-- the tables stand one behind another, with room for n sets, n entries and n regions in use, and behind the stamps for the entries of one set
pub record Room (t : SetTables) (n long : ℕ) : Type 0 where
  pub rows-to : t.rows + 2 * n ≤ t.body
  pub body-to : t.body + 2 * n ≤ t.used
  pub used-to : t.used + n ≤ t.slot
  pub slot-to : t.slot + t.regions ≤ t.stamp
  pub spare-to : t.stamp + t.regions + 2 * t.regions ≤ t.first
  pub first_to : t.first + t.regions ≤ long
  pub few : n ≤ most_records
  pub regions-few : t.regions ≤ most_records
  pub long-few : t.first + t.regions ≤ 4294967295

-- what is left of a job behind the axis records that have said its regions
abbrev pub left_behind : (axes mode : ℕ) (job : List ℕ) (records from : ℕ) → Outcome
left_behind axes mode job records from = records_from axes mode job (record_at job from) (records - from) from (in_sets (regions_only (region_list axes (from / axes) job)))

-- the records of the sets, from record `from` on, are held
pub record SetsHeld (axes mode : ℕ) (job : List ℕ) (records from : ℕ) (t : SetTables) (new : List ℕ) (c : SetCounts) : Type 0 where
  pub said : Said
  pub is : left_behind axes mode job records from ≡ fine said
  pub values-are : said.values ≡ c.values
  pub start : ℕ
  pub held : Holds new t said c.sets c.uses start 0
  pub start-in : start ≤ t.used
  pub uses-few : c.uses ≤ records

-- they are held, or refused as what is left of the job is
pub record SetsRead (axes mode : ℕ) (job : List ℕ) (records from : ℕ) (t : SetTables) (old new : List ℕ) (r : Result SetCounts Refused) : Type 0 where
  pub is : MatchResult r (λ c. SetsHeld axes mode job records from t new c) (λ x. left_behind axes mode job records from ≡ refused (number x.refusal) x.place)
  pub only : Only ((0, t.first) ∷ []) old new

-- ---- one record of the sets

abbrev pub begun_at : ℕ → SoFar
begun_at start = record { sets = 0; values = 0; uses = 0; start = start; count = 0; begun = false }

-- what the end of a set asks of the tables
pub record EndFits (w : List ℕ) (t : SetTables) (sets start count : ℕ) : Type 0 where
  pub row : t.rows + 2 * sets + 2 ≤ t.body
  pub body-in : start + 2 * count ≤ t.used
  pub used-to : t.used ≤ t.slot
  pub slot-to : t.slot + t.regions ≤ t.stamp
  pub spare-to : t.stamp + t.regions + 2 * count ≤ t.first
  pub first_to : t.first + t.regions ≤ length w
  pub body-low : t.body ≤ start
  pub long-few : t.used ≤ 4294967295

-- what one more record asks of the tables
pub record RecordFits (w : List ℕ) (t : SetTables) (f : SoFar) : Type 0 where
  pub value-fits : ValueFits w t f.uses f.start f.count
  pub end_fits : EndFits w t f.sets f.start f.count
  pub few : f.sets + f.values < most_records

-- what the code keeps of the regions that a set has named: whether there are any
abbrev pub is_open : List ℕ → Bool
is_open [] = false
is_open (q ∷ named) = true

-- work and counts are what s says, behind `from` axis records
pub record Reached (axes from : ℕ) (w : List ℕ) (t : SetTables) (s : Said) (f : SoFar) : Type 0 where
  pub held : Holds w t s f.sets f.uses f.start f.count
  pub opened : f.begun ≡ is_open s.named
  pub closed : f.begun ≡ false → f.count ≡ 0
  pub values-are : s.values ≡ f.values
  pub regions-from : axes * length s.regions ≡ from

-- record i leads on: to what is said then, and the counts have grown by one value or one set
pub record RecordOn (axes mode : ℕ) (job : List ℕ) (i from : ℕ) (t : SetTables) (s : Said) (f : SoFar) (new : List ℕ) (r : SoFar) : Type 0 where
  pub said : Said
  pub is : step axes mode job (record_at job i) i (in_sets s) ≡ on (in_sets said)
  pub reached : Reached axes from new t said r
  pub one : r.sets + r.values ≡ f.sets + f.values + 1
  pub uses-few : r.uses + f.values ≤ f.uses + r.values
  pub body-few : r.start + 2 * r.count + 2 * f.values ≤ f.start + 2 * f.count + 2 * r.values

-- record i leads on, or is refused
pub record RecordRead (axes mode : ℕ) (job : List ℕ) (i from : ℕ) (t : SetTables) (s : Said) (f : SoFar) (old new : List ℕ) (r : Result SoFar Refusal) : Type 0 where
  pub is : MatchResult r (λ g. RecordOn axes mode job i from t s f new g) (λ x. step axes mode job (record_at job i) i (in_sets s) ≡ stop (number x))
  pub only : Only ((0, t.first) ∷ []) old new
