use Rattle.table.proofs.TableSteps.{part-narrow, part-cost}
use Rattle.table.proofs.row_cost.Goals as goal

pub of-requires : goal.of-requires
of-requires c = part-narrow c.args.t c.args.s _ c.requires

pub returns : goal.returns
returns c = part-cost c.args.t c.args.s _ _ _ c.of.ensures
