use Prim.Native.Nat.{◌-◌}
use Rattle.laws.specs.Bounded.{tabulate}
use Rattle.laws.specs.LentRange.{seg}
use Rattle.laws.specs.Joining.{join_all}
use Rattle.said.specs.Records.{axis_coordinates, coords_long}
use Rattle.store.specs.Lent.{chain}
use Rattle.rows.proofs.PutLaws.{Putting}
use Rattle.writing.proofs.list.write_region.Given as goal

abbrev pub invariant-loop-a : goal.invariant-loop-a
invariant-loop-a l = Putting l.at (chain (λ a'. seg (axis_coordinates l.from a') coords_long l.src) l.axes) l.initial.out l.out l.p (join_all (tabulate l.a (l.axes - l.a) (λ a'. seg (axis_coordinates l.from a') coords_long l.src)))
