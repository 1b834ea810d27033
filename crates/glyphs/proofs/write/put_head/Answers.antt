use Rattle.glyphs.proofs.WriteLaws.{head-put}
use Rattle.glyphs.proofs.write.put_head.Goals as goal

pub returns : goal.returns
returns c = head-put _ _ _ _ _ _ _ _ c.requires.k_in_bounds c.put.ensures c.put-2.ensures c.put-3.ensures
