-- What is counted of the records before a record of a job, and R6 to R9, R30 to R34 by that: by the job's bytes alone. Where a record breaks several,
-- the first of R30 to R34, R6, R7, R9 is true of it, and no other (T2). Assumes nothing.
use Rattle.std.specs.Prelude.{◌≡◌, true, ◌⊎◌, List, [], ℕ, suc, ◌/◌, ◌%◌, ◌≤◌, ◌<◌, length, get_or}
use Rattle.said.specs.Records.{kind, axis_kind, value_kind, end_kind, must_be_zero, region_number, axis_of, record_at, record_count}
use Rattle.said.specs.Refusals.{unknown_region, region_twice, sets_full, unknown_kind, region_unfinished}
use Rattle.said.specs.Sets.{Region, region_list, has}
use Rattle.told.specs.Told.{count_kind, ends_before}
use Rattle.limits.specs.Limits.{max_regions, max_items}

-- ---- what stands before record i

-- how many of the first i records are axis records
abbrev pub axis_records : List ℕ → ℕ → ℕ
axis_records job i = count_kind axis_kind job i

-- the end records of the whole job
abbrev pub end_records : List ℕ → ℕ
end_records job = ends_before job (record_count job)

-- the regions that have all their axis records before record i
abbrev pub known_regions : ℕ → List ℕ → ℕ → List Region
known_regions axes job i = region_list axes (axis_records job i / axes) job

-- an unfinished region before record i
abbrev pub InRegion : ℕ → List ℕ → ℕ → Type 0
InRegion axes job i = axis_records job i % axes ≡ 0 → ⊥

-- ---- the form of a record

-- byte b is one that must be 0 in a record of its kind
abbrev pub MustBeZero : List ℕ → ℕ → Type 0
MustBeZero r b = has b (must_be_zero (kind r)) ≡ true

-- each of these bytes is 0
abbrev pub AllZero : List ℕ → Type 0
AllZero r = (b : ℕ) → MustBeZero r b → get_or r b 0 ≡ 0

-- R30 UNKNOWN_KIND
pub record UnknownKind (r : List ℕ) : Type 0 where
  pub no-axis : kind r ≡ axis_kind → ⊥
  pub no_value : kind r ≡ value_kind → ⊥
  pub no_end : kind r ≡ end_kind → ⊥

-- R31 NOT_ZERO: byte b is the first of these bytes that is not 0
pub record NotZeroAt (r : List ℕ) (b : ℕ) : Type 0 where
  pub must : MustBeZero r b
  pub is-not : get_or r b 0 ≡ 0 → ⊥
  pub first : (a : ℕ) → a < b → MustBeZero r a → get_or r a 0 ≡ 0

-- the numbers of an axis record whose turn it is: region by region, and in each axis by axis, as long as there may be such a region
pub record InTurn (axes : ℕ) (job : List ℕ) (i : ℕ) (r : List ℕ) : Type 0 where
  pub region-few : region_number r < max_regions
  pub region-next : region_number r ≡ axis_records job i / axes
  pub axis-next : axis_of r ≡ axis_records job i % axes

-- R32 AXIS_OUT_OF_TURN
pub record OutOfTurn (axes : ℕ) (job : List ℕ) (i : ℕ) (r : List ℕ) : Type 0 where
  pub is-axis : kind r ≡ axis_kind
  pub all-zero : AllZero r
  pub other : InTurn axes job i r → ⊥

-- R33 AXIS_TOO_LATE: a value or an end stands before it
pub record TooLate (axes : ℕ) (job : List ℕ) (i : ℕ) (r : List ℕ) : Type 0 where
  pub is-axis : kind r ≡ axis_kind
  pub all-zero : AllZero r
  pub in-turn : InTurn axes job i r
  pub late : axis_records job i < i

-- R34 REGION_UNFINISHED
pub record InUnfinished (axes : ℕ) (job : List ℕ) (i : ℕ) (r : List ℕ) : Type 0 where
  pub value-or-end : (kind r ≡ value_kind) ⊎ (kind r ≡ end_kind)
  pub all-zero : AllZero r
  pub in-region : InRegion axes job i

-- ---- values and ends

-- a value record with its zeros, not inside an unfinished region
pub record ValueHere (axes : ℕ) (job : List ℕ) (i : ℕ) (r : List ℕ) : Type 0 where
  pub is-value : kind r ≡ value_kind
  pub all-zero : AllZero r
  pub whole : axis_records job i % axes ≡ 0

-- R6 UNKNOWN_REGION
pub record UnknownRegion (axes : ℕ) (job : List ℕ) (i : ℕ) (r : List ℕ) : Type 0 where
  pub value-here : ValueHere axes job i r
  pub unknown : length (known_regions axes job i) ≤ region_number r

-- a value record of the set that is not yet ended at record i, with the coordinates of region q
pub record NamedBefore (axes : ℕ) (job : List ℕ) (i q : ℕ) : Type 0 where
  pub place : ℕ
  pub before-it : place < i
  pub one_set : (k : ℕ) → place ≤ k → k < i → kind (record_at job k) ≡ value_kind
  pub same : get_or (known_regions axes job i) (region_number (record_at job place)) [] ≡ get_or (known_regions axes job i) q []

-- R7 REGION_TWICE
pub record RegionTwice (axes : ℕ) (job : List ℕ) (i : ℕ) (r : List ℕ) : Type 0 where
  pub value-here : ValueHere axes job i r
  pub known : region_number r < length (known_regions axes job i)
  pub twice : NamedBefore axes job i (region_number r)

-- R9 SETS_FULL: 65,535 end records stand before this one
pub record SetsFull (axes mode : ℕ) (job : List ℕ) (i : ℕ) (r : List ℕ) : Type 0 where
  pub is-end : kind r ≡ end_kind
  pub all-zero : AllZero r
  pub whole : axis_records job i % axes ≡ 0
  pub mode-one : mode ≡ 1
  pub full : ends_before job i ≡ max_items

-- the numbers that a record can be refused by
pub data RecordNo (n : ℕ) : Type 0 where
  of-form : unknown_kind ≤ n → n ≤ region_unfinished → RecordNo n
  of-region : (n ≡ unknown_region) ⊎ (n ≡ region_twice) → RecordNo n
  of-sets : n ≡ sets_full → RecordNo n

-- ---- the end of the job

-- R8 UNFINISHED
pub data Unfinished (axes : ℕ) (job : List ℕ) (records : ℕ) : Type 0 where
  inside-region : InRegion axes job records → Unfinished axes job records
  -- its last record is a value
  inside-set : (k : ℕ) → suc k ≡ records → kind (record_at job k) ≡ value_kind → Unfinished axes job records
