use lib.ListN.{get_or}
use Rattle.laws.specs.LentRange.{seg}
use Rattle.store.specs.Lent.{final_at}
use Rattle.store.proofs.GroupLaws.{part-seg}
use Prim.Native.Nat.{◌+◌}
use Rattle.writing.proofs.ids.map_group.Goals as goal

pub map_runs-requires-clause-all : goal.map_runs-requires-clause-all
map_runs-requires-clause-all c =
    let a = c.args in
    rw (part-seg (get_or a.work.now (a.group + 1) 0) (get_or a.work.now (a.group + 2) 0) a.work.now) c.requires.ids_below.below

pub returns : goal.returns
unfolding final_at
returns c =
    let a = c.args in
    let shape = seg (get_or a.work.now a.group 0) a.t.regions a.work.now in
    let m = c.map_runs.ensures.mapped shape in
    record { mapped = rw (part-seg (get_or a.work.now (a.group + 1) 0) (get_or a.work.now (a.group + 2) 0) a.work.now) at m; upper_bound = c.map_runs.ensures.upper_bound }
