use Rattle.store.proofs.HeaderLaws.{header-put}
use Rattle.writing.proofs.whole.write_header.Goals as goal

pub returns : goal.returns
returns c = header-put _ _ _ _ _ c.requires.in_bounds c.put.ensures c.put-2.ensures c.put-3.ensures
