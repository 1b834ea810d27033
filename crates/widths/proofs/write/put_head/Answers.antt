use Rattle.widths.proofs.WriteLaws.{head-put}
use Rattle.widths.proofs.write.put_head.Goals as goal

pub returns : goal.returns
returns c = head-put _ _ _ _ _ _ _ _ c.requires c.put.ensures c.put-2.ensures c.put-3.ensures c.put-4.ensures c.put-5.ensures c.put-6.ensures
