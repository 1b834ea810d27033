use lib.ListN.{get_or}
use Rattle.store.proofs.GroupLaws.{part-seg}
use Rattle.store.proofs.SizeLaws.{form-by}
use Rattle.planning.proofs.size.form_of.Goals as goal

pub returns : goal.returns
returns c =
    let a = c.args in
    let s = get_or a.work.now a.group 0 in
    let e = rw (part-seg s a.t.regions a.work.now) at c.form_alone.ensures in
    form-by a.t.regions a.work.now a.group _ _ c.requires.regions_le_max_regions c.requires.handed.shape e.0 e.1
