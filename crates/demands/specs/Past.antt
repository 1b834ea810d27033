-- What a done build leaves as it was in the lent memory: in each buffer all that stands behind what it writes (L3). Assumes nothing.
use Rattle.std.specs.Prelude.{◌≡◌, ◌*◌, drop}
use Rattle.finishing.specs.declared.answers.Report.{Report}
use Rattle.call.specs.Lending.{Lending}
use Rattle.call.specs.Build.{after}
use Rattle.refusing.specs.Counts.{end_records}

pub record PastKept (c : Lending) (r : Report) : Type 0 where
  -- behind the store's bytes
  pub out-kept : drop r.bytes (after c).lent.out ≡ drop r.bytes c.lent.out
  -- behind an id for each end record
  pub ids-kept : drop (end_records c.job) (after c).lent.ids ≡ drop (end_records c.job) c.lent.ids
  -- behind a word for each distinct id
  pub map-kept : drop r.ids (after c).lent.map ≡ drop r.ids c.lent.map
  -- behind three words for each merge
  pub log-kept : drop (3 * r.merges) (after c).lent.log ≡ drop (3 * r.merges) c.lent.log
  -- behind two words for each starting group
  pub origins-kept : drop (2 * r.groups) (after c).lent.origins ≡ drop (2 * r.groups) c.lent.origins
