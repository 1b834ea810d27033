use Rattle.rows.proofs.PutLaws.{head-put}
use Rattle.subtables.proofs.subtable.write_head.Goals as goal

pub returns : goal.returns
returns c = head-put _ _ _ _ _ _ _ _ c.requires.at_in_bounds c.put.ensures c.put-2.ensures c.put-3.ensures
