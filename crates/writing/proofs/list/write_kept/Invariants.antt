use Prim.Native.Nat.{◌+◌, ◌-◌}
use mathlib.Core.List.{map}
use lib.ListN.{get_or}
use Rattle.laws.specs.Bounded.{tabulate, up_to}
use Rattle.laws.specs.Sorting.{keep}
use Rattle.laws.specs.Joining.{join_all}
use Rattle.store.specs.Lent.{coords_at, kept_bytes, marked_in}
use Rattle.rows.proofs.PutLaws.{Putting}
use Rattle.writing.proofs.list.write_kept.Given as goal

abbrev pub invariant-loop-r : goal.invariant-loop-r
invariant-loop-r l = Putting l.at (kept_bytes l.src l.c.axes l.work l.c.starts (keep (marked_in l.marks) (up_to l.regions))) l.initial.out l.out l.p (join_all (map (λ r'. coords_at l.src l.c.axes (get_or l.work (l.c.starts + r') 0)) (keep (marked_in l.marks) (tabulate l.r (l.regions - l.r) (λ k. k)))))
