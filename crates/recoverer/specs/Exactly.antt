-- Each refusal exactly when, in the order of the table, and done exactly else (RULES R4, R20, R50 to R53).
use Rattle.std.specs.Prelude.{◌≡◌, true, List, ◌↔◌, ℕ, ◌*◌, ◌≤◌, ◌<◌, length}
use Rattle.limits.specs.Limits.{most_records, most_axes, max_regions}
use Rattle.reader.specs.Store.{bad_store}
use Rattle.said.specs.Records.{record_bytes}
use Rattle.said.specs.Refusals.{work_short}
use Rattle.stores.specs.Stores.{Parsed, store_at, is_whole_ok}
use Rattle.stores.specs.Coordinates.{Distinct}
use Rattle.recovering.specs.Recovering.{records_of}
use Rattle.recoverer.specs.Recover.{regions_equal, regions_or_axes, job_too_long, job_short, recover_no}

-- regions and axes that a job can have
pub record Bounded (p : Parsed) : Type 0 where
  pub few-regions : length p.regions ≤ max_regions
  pub some-axes : 0 < p.axes
  pub few-axes : p.axes ≤ most_axes

pub record Exactly (s : List ℕ) (work out : ℕ) : Type 0 where
  pub work-short : (recover_no s work out ≡ work_short) ↔ (work < length s)
  pub bad-store : (recover_no s work out ≡ bad_store) ↔ ((length s ≤ work) × (is_whole_ok s ≡ true → ⊥))
  pub regions-equal : (recover_no s work out ≡ regions_equal) ↔ ((length s ≤ work) × (is_whole_ok s ≡ true) × (Distinct (store_at s).regions → ⊥))
  pub regions-or-axes : (recover_no s work out ≡ regions_or_axes) ↔ ((length s ≤ work) × (is_whole_ok s ≡ true) × Distinct (store_at s).regions × (Bounded (store_at s) → ⊥))
  pub job-too-long : (recover_no s work out ≡ job_too_long) ↔ ((length s ≤ work) × (is_whole_ok s ≡ true) × Distinct (store_at s).regions × Bounded (store_at s) × (most_records < records_of (store_at s)))
  pub job-short : (recover_no s work out ≡ job_short) ↔ ((length s ≤ work) × (is_whole_ok s ≡ true) × Distinct (store_at s).regions × Bounded (store_at s) × (records_of (store_at s) ≤ most_records) × (out < record_bytes * records_of (store_at s)))
  pub done : (recover_no s work out ≡ 0) ↔ ((length s ≤ work) × (is_whole_ok s ≡ true) × Distinct (store_at s).regions × Bounded (store_at s) × (records_of (store_at s) ≤ most_records) × (record_bytes * records_of (store_at s) ≤ out))
