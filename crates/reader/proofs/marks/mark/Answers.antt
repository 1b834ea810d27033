use mathlib.Core.Path.{refl}
use Rattle.reader.proofs.MarkLaws.{mark-new, mark-is}
use Rattle.reader.proofs.marks.mark.Goals as goal

pub returns : goal.returns
returns c = record { value = mark-new c.args.seen.now c.args.x _ refl; seen_after = mark-is c.args.seen.now c.args.x _ refl }
