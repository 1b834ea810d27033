use Prim.Native.Nat.{◌*◌}
use lib.ListN.{drop}
use Rattle.said.specs.Sets.{coordinates}
use Rattle.job_scan.proofs.WriteLaws.{Writing}
use Rattle.job_scan.proofs.regions.write_region.Given as goal

abbrev pub invariant-loop-k : goal.invariant-loop-k
invariant-loop-k l = Writing l.at (3 * l.axes) (coordinates l.axes (drop l.p l.job)) l.initial.work l.work l.k
