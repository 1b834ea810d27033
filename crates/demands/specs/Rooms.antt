-- R10 to R14, R60 and R61 in plain numbers, of a job that is sound, in the order T4. Each record says what holds where
-- the numbers up to its own are not given. Assumes nothing.
use Rattle.std.specs.Prelude.{◌≡◌, ℕ, ◌-◌, ◌*◌, ◌≤◌, length}
use Rattle.said.specs.Job.{Said, fine}
use Rattle.finishing.specs.Late.{store_for}
use Rattle.call.specs.Lending.{Lending}
use Rattle.call.specs.Build.{coords_in_use, packed_of, outcome_of}
use Rattle.limits.specs.Limits.{max_shapes}
use Rattle.said.specs.Refusals.{most_bytes}
use Rattle.refusing.specs.Counts.{end_records}

-- the job is sound, and this holds of what it says
pub record Taken (c : Lending) (P : Said → Type 0) : Type 0 where
  pub said : Said
  pub sound : outcome_of c ≡ fine said
  pub holds : P said

-- N, the count of distinct shapes; it is 0 in mode 1
abbrev pub shape_count : ℕ → Said → ℕ
shape_count mode s = (packed_of mode s).groups

abbrev pub distinct_ids : ℕ → Said → ℕ
distinct_ids mode s = length (packed_of mode s).sets

abbrev pub store_bytes : ℕ → ℕ → Said → ℕ
store_bytes axes mode s = length (store_for axes (coords_in_use s) (packed_of mode s))

pub record ShapesFit (mode : ℕ) (s : Said) : Type 0 where
  pub shapes-few : shape_count mode s ≤ max_shapes

pub record IdsFit (c : Lending) (s : Said) : Type 0 where
  pub shapes-fit : ShapesFit c.mode s
  pub ids-room : end_records c.job ≤ length c.lent.ids

pub record MapFit (c : Lending) (s : Said) : Type 0 where
  pub ids-fit : IdsFit c s
  pub map-room : distinct_ids c.mode s ≤ length c.lent.map

pub record LogFit (c : Lending) (s : Said) : Type 0 where
  pub map-fit : MapFit c s
  pub log-room : 3 * (shape_count c.mode s - 1) ≤ length c.lent.log

pub record OriginsFit (c : Lending) (s : Said) : Type 0 where
  pub log-fit : LogFit c s
  pub origins-room : 2 * shape_count c.mode s ≤ length c.lent.origins

pub record BytesFit (c : Lending) (s : Said) : Type 0 where
  pub origins-fit : OriginsFit c s
  pub bytes-few : store_bytes c.axes c.mode s ≤ most_bytes

pub record OutFit (c : Lending) (s : Said) : Type 0 where
  pub bytes_fit : BytesFit c s
  pub out-room : store_bytes c.axes c.mode s ≤ length c.lent.out
