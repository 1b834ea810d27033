use Rattle.store.proofs.GroupLaws.{cols-ok, laid-few, laid-long, laid-ok, laid-only, laid-placed, laid_word}
use Rattle.writing.proofs.LaidLaws.{laid-bytes, laid-sets}
use native.Mathlib.Omega.{arith}
use Rattle.writing.proofs.groups.write_group.Goals as goal

pub place-requires : goal.place-requires
place-requires c =
    let q = c.requires in
    let f = c.columns-form.ensures in
    let few = laid-few _ _ _ _ q.regions_le_max_regions q.regions_bound q.regions_in_bounds _ _ _ f in
    record { n_bound = omega (arith, q.regions_le_max_regions); n_bound_2 = omega arith; regions_in_bounds = omega (arith, q.regions_in_bounds, laid-long _ _ _ _ q.regions_le_max_regions q.regions_bound q.regions_in_bounds _ _ _ f); work_value = laid-ok _ _ _ _ q.regions_le_max_regions q.regions_bound q.regions_in_bounds _ _ _ f }

pub write_laid-requires : goal.write_laid-requires
write_laid-requires c =
    let a = c.args in
    let q = c.requires in
    let f = c.columns-form.ensures in
    let p = c.place.ensures in
    let bytes = laid-bytes _ _ _ _ q.regions_le_max_regions q.regions_bound q.regions_in_bounds _ _ _ f _ p a.sets.index a.sets.ids a.sets.count in
    record { word_bound = (laid_word _ _ _ _ q.regions_le_max_regions q.regions_bound q.regions_in_bounds _ _ _ f, laid-few _ _ _ _ q.regions_le_max_regions q.regions_bound q.regions_in_bounds _ _ _ f, q.regions_le_max_regions); regions_in_bounds = omega (arith, q.regions_in_bounds, (laid-only _ _ _ _ q.regions_le_max_regions q.regions_bound q.regions_in_bounds _ _ _ f _ p).long); placed = laid-placed _ _ _ _ q.regions_le_max_regions q.regions_bound q.regions_in_bounds _ _ _ f _ p; work_value = cols-ok _ _ _ _ q.regions_le_max_regions q.regions_bound q.regions_in_bounds _ _ _ f _ p; count_bound = q.count_bound; count_bound_2 = q.count_bound_2; all = laid-sets _ _ _ _ q.regions_le_max_regions q.regions_bound q.regions_in_bounds _ _ _ f _ p _ _ _ q.all; work_in_bounds = rw bytes q.work_in_bounds }

pub returns : goal.returns
returns c =
    let a = c.args in
    let q = c.requires in
    let f = c.columns-form.ensures in
    let p = c.place.ensures in
    let bytes = laid-bytes _ _ _ _ q.regions_le_max_regions q.regions_bound q.regions_in_bounds _ _ _ f _ p a.sets.index a.sets.ids a.sets.count in
    record { put = rw bytes at c.write_laid.ensures; only = laid-only _ _ _ _ q.regions_le_max_regions q.regions_bound q.regions_in_bounds _ _ _ f _ p }
