use mathlib.Core.Path.{◌∙◌}
use Rattle.job.proofs.HeadLaws.{head_is}
use Rattle.job.proofs.head.head_regions.Goals as goal

pub returns : goal.returns
returns c = c.min.ensures ∙ head_is c.args.axes c.args.job.now c.if-axes-eq0.false c.head_run.ensures c.div_ceil.ensures
