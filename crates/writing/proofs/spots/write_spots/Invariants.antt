use Prim.Native.Nat.{◌+◌, ◌-◌, ◌*◌}
use Rattle.laws.specs.Bounded.{tabulate}
use Rattle.laws.specs.Joining.{join_all}
use Rattle.store.specs.Lent.{chain, final_at, group_sizes}
use Rattle.store.proofs.SpotLaws.{Spotting}
use Rattle.writing.proofs.spots.write_spots.Given as goal

abbrev pub invariant-loop-g : goal.invariant-loop-g
invariant-loop-g l = Spotting l.at l.first (chain (λ g'. group_sizes (final_at l.t.regions l.work (l.t.groups + 3 * g'))) l.t.count) l.initial.out l.out l.p l.next (join_all (tabulate l.g (l.t.count - l.g) (λ g'. group_sizes (final_at l.t.regions l.work (l.t.groups + 3 * g')))))
