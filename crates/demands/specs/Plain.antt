-- What a done build in mode 1 leaves: an id of its own for each end record, and one subtable with their rows in order (S5, F5). Assumes nothing.
use Rattle.std.specs.Prelude.{◌≡◌, ℕ, ◌≤◌, ◌<◌, get_or}
use Rattle.limits.specs.Limits.{max_items}
use Rattle.finishing.specs.declared.answers.Report.{Report}
use Rattle.call.specs.Lending.{Lending}
use Rattle.call.specs.Build.{after}
use Rattle.refusing.specs.Counts.{end_records}

pub record Plain (c : Lending) (r : Report) : Type 0 where
  -- R9 lets no more through
  pub sets-few : end_records c.job ≤ max_items
  pub ids-are : r.ids ≡ end_records c.job
  -- set n has the id n, and id x stands at outer 0, inner x
  pub id-is : (n : ℕ) → n < end_records c.job → get_or (after c).lent.ids n 0 ≡ n
  pub word-is : (x : ℕ) → x < end_records c.job → get_or (after c).lent.map x 0 ≡ x
  -- also where there are no sets
  pub one-subtable : r.subtables ≡ 1
