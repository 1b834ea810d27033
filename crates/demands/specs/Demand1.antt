-- D1: every call is answered, and is refused exactly where the refusal table says (R1 to R4, R6 to R14, R30 to R34, R60, R61), by that number, place and byte; and
-- what everything lent holds afterwards (L1 to L4). Assumes nothing.
use Rattle.std.specs.Prelude.{◌≡◌, ◌⊎◌, ℕ, ◌-◌, ◌*◌, ◌≤◌, ◌<◌, length, replicate}
use Rattle.said.specs.Records.{record_at, record_count, spare_bytes}
use Rattle.limits.specs.Limits.{most_records, most_axes, max_shapes}
use Rattle.said.specs.Refusals as refusals
use Rattle.said.specs.Refusals.{job_work, pair_records, most_bytes, bad_axes, bad_mode, bad_job_length, work_short, unknown_region, region_twice, sets_full, shapes_full, ids_short, map_short, log_short, origins_short, store_too_big, out_short, unknown_kind, not_zero, axis_out_of_turn, axis_too_late, region_unfinished}
use Rattle.said.specs.Job.{Said, fine}
use Rattle.finishing.specs.declared.answers.Report.{Report}
use Rattle.finishing.specs.Answers.{Built}
use Rattle.finishing.specs.Answers.{Refused, Done}
use Rattle.finishing.specs.Late.{report_of}
use Rattle.call.specs.Lending.{Lending, Left, no_pair}
use Rattle.call.specs.Build.{coords_in_use, packed_of, outcome_of, answer_of, after}
use Rattle.packer.specs.Promised.{Obeys}
use Rattle.refusing.specs.Exactly.{Exactly}
use Rattle.demands.specs.Fits.{AxesFit, ModeFit, LengthFit}
use Rattle.refusing.specs.Counts.{end_records, UnknownKind, NotZeroAt, OutOfTurn, TooLate, InUnfinished, UnknownRegion, RegionTwice, SetsFull, RecordNo, Unfinished}
use Rattle.refusing.specs.BadRecord.{BadRecord}
use Rattle.refusing.specs.Fine.{Fine}
use Rattle.reporting.specs.Answers.{byte_told}
use Rattle.demands.specs.Rows.{EarliestBad, AllPass}
use Rattle.demands.specs.Rooms.{Taken, shape_count, distinct_ids, store_bytes, ShapesFit, IdsFit, MapFit, LogFit, OriginsFit, BytesFit, OutFit}
use Rattle.demands.specs.Past.{PastKept}

-- the refusal n at place p is given exactly for this reason
abbrev pub Row : Lending → ℕ → ℕ → Type 0 → Type 0
Row c n p Why = Exactly (answer_of c ≡ Refused n p) Why

-- no refusal of the job: each record is fine, and the job is finished
abbrev pub Sound : Lending → Type 0
Sound c = AllPass c (Unfinished c.axes c.job (record_count c.job) → ⊥)

-- the table. `Taken` is of a job that is sound, and of what it says
pub record Table (c : Lending) : Type 0 where
  pub bad-axes : (p : ℕ) → Row c bad_axes p ((p ≡ 0) × ((c.axes ≡ 0) ⊎ (most_axes < c.axes)))
  pub bad-mode : (p : ℕ) → Row c bad_mode p ((p ≡ 0) × (AxesFit c.axes × (1 < c.mode)))
  pub bad-job-length : (p : ℕ) → Row c bad_job_length p ((p ≡ 0) × (ModeFit c.axes c.mode × ((spare_bytes (length c.job) ≡ 0 → ⊥) ⊎ (most_records < record_count c.job))))
  pub work-short : (p : ℕ) → Row c work_short p
      ((p ≡ 0) × (LengthFit c.axes c.mode (length c.job) × ((length c.work < job_work c.axes c.job) ⊎ (length c.pairs < pair_records))))
  pub unknown-kind : (i : ℕ) → Row c unknown_kind i (EarliestBad c i (UnknownKind (record_at c.job i)))
  -- with the byte within the record
  pub not-zero : (i b : ℕ) → Exactly ((answer_of c ≡ Refused not_zero i) × (byte_told c.job (answer_of c) ≡ b)) (EarliestBad c i (NotZeroAt (record_at c.job i) b))
  pub axis-out-of-turn : (i : ℕ) → Row c axis_out_of_turn i (EarliestBad c i (OutOfTurn c.axes c.job i (record_at c.job i)))
  pub axis-too-late : (i : ℕ) → Row c axis_too_late i (EarliestBad c i (TooLate c.axes c.job i (record_at c.job i)))
  pub region-unfinished : (i : ℕ) → Row c region_unfinished i (EarliestBad c i (InUnfinished c.axes c.job i (record_at c.job i)))
  pub unknown-region : (i : ℕ) → Row c unknown_region i (EarliestBad c i (UnknownRegion c.axes c.job i (record_at c.job i)))
  pub region-twice : (i : ℕ) → Row c region_twice i (EarliestBad c i (RegionTwice c.axes c.job i (record_at c.job i)))
  pub unfinished : (p : ℕ) → Row c refusals.unfinished p ((p ≡ record_count c.job) × AllPass c (Unfinished c.axes c.job (record_count c.job)))
  pub sets-full : (i : ℕ) → Row c sets_full i (EarliestBad c i (SetsFull c.axes c.mode c.job i (record_at c.job i)))
  pub shapes-full : (p : ℕ) → Row c shapes_full p ((p ≡ 0) × Taken c (λ s. (c.mode ≡ 0) × (max_shapes < shape_count c.mode s)))
  pub ids-short : (p : ℕ) → Row c ids_short p ((p ≡ 0) × Taken c (λ s. ShapesFit c.mode s × (length c.lent.ids < end_records c.job)))
  pub map-short : (p : ℕ) → Row c map_short p ((p ≡ 0) × Taken c (λ s. IdsFit c s × (length c.lent.map < distinct_ids c.mode s)))
  pub log-short : (p : ℕ) → Row c log_short p
      ((p ≡ 0) × Taken c (λ s. MapFit c s × (c.mode ≡ 0) × (1 ≤ shape_count c.mode s) × (length c.lent.log < 3 * (shape_count c.mode s - 1))))
  pub origins-short : (p : ℕ) → Row c origins_short p
      ((p ≡ 0) × Taken c (λ s. LogFit c s × (c.mode ≡ 0) × (length c.lent.origins < 2 * shape_count c.mode s)))
  pub store-too-big : (p : ℕ) → Row c store_too_big p ((p ≡ 0) × Taken c (λ s. OriginsFit c s × (most_bytes < store_bytes c.axes c.mode s)))
  pub out-short : (p : ℕ) → Row c out_short p ((p ≡ 0) × Taken c (λ s. BytesFit c s × (length c.lent.out < store_bytes c.axes c.mode s)))
  -- done exactly where no row is given
  pub is-done : (r : Report) → Exactly (answer_of c ≡ Done r) (Taken c (λ s. OutFit c s × (r ≡ report_of c.axes (coords_in_use s) (packed_of c.mode s))))
  -- and there are no other numbers
  pub numbers : (n p : ℕ) → answer_of c ≡ Refused n p → (1 ≤ n) × (n ≡ 5 → ⊥) × ((n ≤ out_short) ⊎ (((unknown_kind ≤ n) × (n ≤ region_unfinished)) ⊎ ((store_too_big ≤ n) × (n ≤ origins_short))))
  -- no other refusal names a byte
  pub byte-elsewhere : (n p : ℕ) → (n ≡ not_zero → ⊥) → answer_of c ≡ Refused n p → byte_told c.job (answer_of c) ≡ 0
  -- a job is taken exactly where it is sound
  pub taken : Exactly ((s : Said) × (outcome_of c ≡ fine s)) (Sound c)
  -- the earliest bad record decides: a record's refusal is given at i exactly where all before it are fine and it is not
  pub earliest : (i : ℕ) → Exactly ((n : ℕ) × RecordNo n × (answer_of c ≡ Refused n i)) (EarliestBad c i (Fine c.axes c.mode c.job i → ⊥))
  -- the five rows from 30 on are together the one that 5 BAD_RECORD was
  pub old-five : (i : ℕ) → Exactly ((n : ℕ) × (unknown_kind ≤ n) × (n ≤ region_unfinished) × (answer_of c ≡ Refused n i))
      (EarliestBad c i (BadRecord c.axes c.job i (record_at c.job i)))

-- what everything lent holds afterwards
pub record Kept (c : Lending) : Type 0 where
  -- L1: after a refusal output, ids, map, log and origins are as they were
  pub untouched : (n p : ℕ) → answer_of c ≡ Refused n p → (after c).lent ≡ c.lent
  -- L2: 1 to 4 leave work and pair records as they were, every other answer leaves zeros
  pub work-kept : (n p : ℕ) → n ≤ 4 → answer_of c ≡ Refused n p → (after c).work ≡ c.work
  pub pairs-kept : (n p : ℕ) → n ≤ 4 → answer_of c ≡ Refused n p → (after c).pairs ≡ c.pairs
  pub work-cleared : (n p : ℕ) → 5 ≤ n → answer_of c ≡ Refused n p → (after c).work ≡ replicate (length c.work) 0
  pub pairs-cleared : (n p : ℕ) → 5 ≤ n → answer_of c ≡ Refused n p → (after c).pairs ≡ replicate (length c.pairs) no_pair
  pub work-done : (r : Report) → answer_of c ≡ Done r → (after c).work ≡ replicate (length c.work) 0
  pub pairs-done : (r : Report) → answer_of c ≡ Done r → (after c).pairs ≡ replicate (length c.pairs) no_pair
  -- L3: behind what is written all is as it was
  pub past-kept : (r : Report) → answer_of c ≡ Done r → PastKept c r

pub record Demand1 (c : Lending) : Type 0 where
  pub table : Table c
  pub kept : Kept c
  -- D4: two results that obey the promise are equal
  pub unique : {r s : Built} {a b : Left} → Obeys c r a → Obeys c s b → (r ≡ s) × (a ≡ b)
