use mathlib.Core.Path.{◌∙◌}
use Rattle.finding.proofs.SameLaws.{same-pointwise}
use Rattle.finding.proofs.bytes.same_bytes.Goals as goal

pub returns : goal.returns
returns c = c.eq.ensures ∙ same-pointwise _ _
