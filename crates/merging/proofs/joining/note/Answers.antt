use Rattle.merging.proofs.StoreLaws.{noted}
use Rattle.merging.proofs.joining.note.Goals as goal

pub returns : goal.returns
returns c = noted _ _ _ _ c.requires.laid c.requires.j_bound
