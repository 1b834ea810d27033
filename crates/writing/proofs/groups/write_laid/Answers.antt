use Prim.Native.Nat.{◌+◌}
use lib.Seq.{length-take-le}
use Rattle.laws.proofs.RangeLaws.{length-seg}
use Rattle.store.proofs.GroupLaws.{part-seg}
use native.Mathlib.Omega.{arith}
use Rattle.writing.proofs.groups.write_laid.Goals as goal

pub write_runs-requires : goal.write_runs-requires
write_runs-requires c =
    let a = c.args in
    let q = c.requires in
    let w = a.work.now in
    let e = part-seg (a.scratch + a.regions + a.regions) a.form.count w in
    let n = part-seg (a.scratch + a.regions) a.regions w in
    let p = part-seg (a.scratch + a.regions + a.regions + a.regions) a.regions w in
    record { word_bound = q.word_bound.0; cols_len_bound = rw e (omega (arith, q.word_bound, q.regions_in_bounds, length-seg (a.scratch + a.regions + a.regions) a.form.count w (omega (arith, q.word_bound, q.regions_in_bounds)))); placed = rw (e, p) q.placed; cols_value = rw (e, n, length-seg (a.scratch + a.regions) a.regions w (omega (arith, q.regions_in_bounds))) q.work_value; count_bound = q.count_bound; count_in_bounds = omega (arith, q.count_bound_2, length-take-le a.scratch w (omega (arith, q.regions_in_bounds))); all = q.all; work_in_bounds = rw (e, n) q.work_in_bounds }

pub returns : goal.returns
returns c =
    let a = c.args in
    let w = a.work.now in
    rw (part-seg (a.scratch + a.regions + a.regions) a.form.count w, part-seg (a.scratch + a.regions) a.regions w) at c.write_runs.ensures
