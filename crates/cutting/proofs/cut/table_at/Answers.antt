use Rattle.cutting.proofs.CutLaws.{table_is}
use Rattle.cutting.proofs.cut.table_at.Goals as goal

pub returns : goal.returns
returns c = table_is c.requires _ _ _ c.wide-j.ensures c.wide-o.ensures c.be.ensures
