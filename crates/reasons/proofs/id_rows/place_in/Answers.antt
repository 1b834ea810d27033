use mathlib.Core.Path.{ap, ◌∙◌}
use Rattle.finding.specs.First.{first_at}
use Rattle.reasons.proofs.RowLaws.{ids-same}
use Rattle.reasons.proofs.id_rows.place_in.Goals as goal

pub returns : goal.returns
returns c = let a = c.args in c.place_among.ensures ∙ ap (first_at a.x) (ids-same a.p a.g a.work.now c.requires)
