use mathlib.Core.Path.{sym}
use Rattle.planes.proofs.FillLaws.{long-is}
use Rattle.slots.proofs.tables.MergeTables.plane_long.Goals as goal

pub returns : goal.returns
returns c = sym (long-is _)
