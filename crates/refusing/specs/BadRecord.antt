-- What was refused by 5 BAD_RECORD before R30 to R34 stood in its place, in that row's own words, of records as J1 has them now; and the five as one. No call is answered by 5 any more
-- (specs/Demand1.antt of ivs): this is here to say what the five are together. Assumes nothing.
use Rattle.std.specs.Prelude.{◌≡◌, ◌⊎◌, List, ℕ, ◌+◌, ◌/◌, ◌%◌, ◌≤◌, ◌<◌, get_or}
use Rattle.limits.specs.Limits.{max_regions}
use Rattle.said.specs.Records.{kind, axis_kind, value_kind, end_kind, region_number, axis_of, record_at}
use Rattle.refusing.specs.Counts.{axis_records, InRegion, UnknownKind, NotZeroAt, OutOfTurn, TooLate, InUnfinished, UnknownRegion, RegionTwice, SetsFull}

-- one of the n bytes from byte p on is not 0
pub record NotZero (r : List ℕ) (p n : ℕ) : Type 0 where
  pub byte : ℕ
  pub within : byte < n
  pub is-not : get_or r (p + byte) 0 ≡ 0 → ⊥

-- 5 BAD_RECORD
pub data BadRecord (axes : ℕ) (job : List ℕ) (i : ℕ) (r : List ℕ) : Type 0 where
  unknown-kind : (kind r ≡ axis_kind → ⊥) → (kind r ≡ value_kind → ⊥) → (kind r ≡ end_kind → ⊥) → BadRecord axes job i r
  axis-zero : kind r ≡ axis_kind → NotZero r 10 2 → BadRecord axes job i r
  value-zero : kind r ≡ value_kind → NotZero r 2 1 ⊎ NotZero r 8 4 → BadRecord axes job i r
  end-zero : kind r ≡ end_kind → NotZero r 1 11 → BadRecord axes job i r
  -- region by region, and in each axis by axis: the numbers of axis record i are fixed
  axis-order : kind r ≡ axis_kind → (region_number r ≡ i / axes → ⊥) ⊎ (axis_of r ≡ i % axes → ⊥) → BadRecord axes job i r
  axis-past : kind r ≡ axis_kind → max_regions ≤ region_number r → BadRecord axes job i r
  axis-late : kind r ≡ axis_kind → axis_records job i < i → BadRecord axes job i r
  in-region : (kind r ≡ value_kind) ⊎ (kind r ≡ end_kind) → InRegion axes job i → BadRecord axes job i r

-- one of R30 to R34 is true of the record
pub data OneOfFive (axes : ℕ) (job : List ℕ) (i : ℕ) (r : List ℕ) : Type 0 where
  by_kind : UnknownKind r → OneOfFive axes job i r
  by_byte : (b : ℕ) → NotZeroAt r b → OneOfFive axes job i r
  by_turn : OutOfTurn axes job i r → OneOfFive axes job i r
  by-late : TooLate axes job i r → OneOfFive axes job i r
  by-region : InUnfinished axes job i r → OneOfFive axes job i r

-- a record that passed then: by none of 5, 6, 7 and 9 refused
pub record FineBefore (axes mode : ℕ) (job : List ℕ) (i : ℕ) : Type 0 where
  pub not-bad : BadRecord axes job i (record_at job i) → ⊥
  pub not-unknown : UnknownRegion axes job i (record_at job i) → ⊥
  pub not-twice : RegionTwice axes job i (record_at job i) → ⊥
  pub not_full : SetsFull axes mode job i (record_at job i) → ⊥
