-- How much there may be of what a job holds and of what is made of it. Each limit stands here alone; a law that rests on one names it.
use Rattle.std.specs.Prelude.{ℕ}

-- records of a job
abbrev pub most_records : ℕ
most_records = 1048576

-- axes of a region; there is at least one
abbrev pub most_axes : ℕ
most_axes = 64

-- regions of a job
abbrev pub max_regions : ℕ
max_regions = 32767

-- distinct shapes of a job's sets, in mode 0
abbrev pub max_shapes : ℕ
max_shapes = 1024

-- rows of a subtable, so sets of a group's run, and of a job in mode 1
abbrev pub max_items : ℕ
max_items = 65535

-- pair records that are lent beside work, or more
abbrev pub pair_records : ℕ
pair_records = 1048576
