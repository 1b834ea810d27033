use Prim.Native.Nat.{◌+◌}
use Rattle.rows.proofs.PutLaws.{Putting}
use Rattle.stores.specs.Stores.{store_at}
use Rattle.recovering.specs.Recovering.{regions_from}
use Rattle.job_writing.proofs.RegionLaws.{regions_left, Region}
use Rattle.job_writing.proofs.regions.write_regions.Given as goal

abbrev pub invariant-loop-q : goal.invariant-loop-q
invariant-loop-q l = Region (l.list + 4) l.axes l.n l.from l.q × Putting 0 (regions_from (store_at l.s).axes 0 (store_at l.s).regions) l.initial.out l.out l.p (regions_left l.s (l.list + 4) l.axes l.n l.q)
