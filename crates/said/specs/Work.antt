-- The words of work that a job asks for (RULES J7): by its records, and by the regions at its head, which are counted before any record is judged.
use Rattle.std.specs.Prelude.{List, ℕ, zero, suc, ◌+◌, ◌-◌, ◌*◌, ◌/◌, min, eqb, leb}
use Rattle.laws.specs.Pick.{pick}
use Rattle.limits.specs.Limits.{max_regions, max_shapes}
use Rattle.said.specs.Records.{after_record, record_count, most_records, is_axis}

-- how many axis records n records begin with
unfoldable pub axis_run : (bytes : List ℕ) (n : ℕ) → ℕ
axis_run r zero = 0
axis_run r (suc n) = pick (is_axis r) (suc (axis_run (after_record r) n)) 0

-- the regions at a job's head: the unbroken run of axis records there over the axis count, rounded up, at most as many as there may be; none for no axes
unfoldable pub regions_at_head : (axes : ℕ) (job : List ℕ) → ℕ
regions_at_head axes job = pick (eqb axes 0) 0 (min ((axis_run job (record_count job) + (axes - 1)) / axes) max_regions)

-- the published number of words, of so many records and regions: the planes of bits of a shape are three bits a region, in whole words each
unfoldable pub published_work : (records regions : ℕ) → ℕ
published_work n r = 16 * n + min n max_shapes * (r + 16 + 3 * ((r + 31) / 32))

-- of a job
abbrev pub job_work : (axes : ℕ) (job : List ℕ) → ℕ
job_work axes job = published_work (record_count job) (regions_at_head axes job)

-- the published number as it is asked for: 0 above the record limit, and more regions than there may be count as so many
unfoldable pub building_work : (records regions : ℕ) → ℕ
building_work n r = pick (leb n most_records) (published_work n (min r max_regions)) 0
