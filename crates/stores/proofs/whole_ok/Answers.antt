use Rattle.stores.proofs.WholeLaws.{whole-not, whole_by}
use Rattle.stores.proofs.whole_ok.Goals as goal

pub returns-then-header_ok : goal.returns-then-header_ok
returns-then-header_ok c = whole_by _ _ _ c.header_ok.ensures c.if-header_ok.true c.slots_ok.ensures

pub returns-else-header_ok : goal.returns-else-header_ok
returns-else-header_ok c = whole-not _ _ c.header_ok.ensures c.if-header_ok.false
