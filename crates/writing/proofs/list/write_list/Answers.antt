use lib.ListN.{take}
use lib.Seq.{length-take-le}
use Rattle.laws.specs.Bounded.{up_to}
use Rattle.laws.specs.LentRange.{seg}
use Rattle.laws.specs.Sorting.{keep}
use Rattle.laws.proofs.RangeLaws.{length-seg}
use Rattle.store.specs.Lent.{kept_bytes, marked_in}
use Rattle.store.proofs.GroupLaws.{part-seg}
use Rattle.store.proofs.ListLaws.{list-put, list_length}
use native.Mathlib.Omega.{arith}
use Rattle.writing.proofs.list.write_list.Goals as goal

pub put-requires : goal.put-requires
put-requires c = let a = c.args in omega (arith, c.requires.regions_in_bounds_2, list_length a.c.axes a.kept (kept_bytes a.src.now a.c.axes (take a.marks a.work.now) a.c.starts (keep (marked_in (seg a.marks a.regions a.work.now)) (up_to a.regions))))

pub put-requires-2 : goal.put-requires-2
put-requires-2 c = let a = c.args in omega (arith, c.put.auto.out, c.requires.regions_in_bounds_2, list_length a.c.axes a.kept (kept_bytes a.src.now a.c.axes (take a.marks a.work.now) a.c.starts (keep (marked_in (seg a.marks a.regions a.work.now)) (up_to a.regions))))

pub write_kept-requires : goal.write_kept-requires
write_kept-requires c =
    let a = c.args in
    let q = c.requires in
    let w = a.work.now in
    let e = part-seg a.marks a.regions w in
    record { axes_bound = q.axes_bound; regions_in_bounds = rw e (omega (arith, length-seg a.marks a.regions w q.regions_in_bounds)); regions_in_bounds_2 = omega (arith, q.regions_bound, length-take-le a.marks w (omega (arith, q.regions_in_bounds))); by_index = q.by_index; regions_in_bounds_3 = rw e (omega (arith, c.put.auto.out, c.put-2.auto.out, q.regions_in_bounds_2, list_length a.c.axes a.kept (kept_bytes a.src.now a.c.axes (take a.marks w) a.c.starts (keep (marked_in (seg a.marks a.regions w)) (up_to a.regions))))) }

pub returns : goal.returns
returns c = list-put _ _ _ _ _ _ _ _ _ c.requires.regions_in_bounds_2 c.put.ensures c.put-2.ensures (rw (part-seg c.args.marks c.args.regions c.args.work.now) at c.write_kept.ensures)
