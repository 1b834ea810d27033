-- In mode 0 a store is small, whatever the regions: the modelled total only falls, it starts below 10 bytes a set and 6 a
-- value, a row is written in at most twice its modelled cost, and runs are few. Assumes nothing.
use Rattle.std.specs.Prelude.{ℕ, ◌+◌, ◌*◌, ◌≤◌, length}
use Rattle.laws.specs.Every.{All}
use Rattle.shapes.specs.Shape.{cost_of_row}
use Rattle.shapes.specs.Group.{max_items}
use Rattle.sets.specs.Ids.{distinct}
use Rattle.said.specs.Job.{Said}
use Rattle.store.specs.Placing.{all_runs, kept_of, row_bytes, forecast_of}
use Rattle.encoder.specs.Packed.{Packed, shared}

-- what is made of a job that says s, in mode 0
abbrev pub packed_of : Said → Packed
packed_of s = shared (length s.used) s.sets

-- the bytes of its store
abbrev pub bytes_of : ℕ → Said → ℕ
bytes_of axes s = forecast_of axes (length (kept_of (length s.used) (packed_of s).finals)) (packed_of s).finals

pub record Small (axes records : ℕ) (s : Said) : Type 0 where
  pub falls : (packed_of s).after ≤ (packed_of s).before
  pub starts : (packed_of s).before ≤ 10 * length s.sets + 6 * s.values
  pub twice : All (λ f. row_bytes f.shape ≤ 2 * cost_of_row f.shape) (packed_of s).finals
  -- one for each final group, and no more than one for each 65,535 distinct sets besides
  pub runs : max_items * length (all_runs (packed_of s).finals) ≤ max_items * length (packed_of s).finals + length (distinct s.sets)
  -- so there are at most 35 bytes a record
  pub few : bytes_of axes s ≤ 12 + 35 * records
