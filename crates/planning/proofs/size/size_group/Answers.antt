use Rattle.store.proofs.SizeLaws.{group-sized}
use Rattle.planning.proofs.size.size_group.Goals as goal

pub returns : goal.returns
returns c =
    let a = c.args in
    record { summed = group-sized a.t.regions a.work.now a.group _ _ _ _ _ c.requires.handed.ids c.form_of-form.ensures c.column_at-row.ensures.value c.size_runs.ensures.summed; bytes_bound = c.size_runs.ensures.bytes_bound }
