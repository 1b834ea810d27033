use Prim.Native.Nat.{◌+◌, ◌*◌, ◌≤◌}
use Rattle.store.specs.Lent.{final_at, group_sizes}
use Rattle.store.proofs.SizeLaws.{Totting}
use Rattle.planning.proofs.size.size_groups.Given as goal

abbrev pub invariant-loop-g : goal.invariant-loop-g
invariant-loop-g l = (l.bytes ≤ 584115552256 * l.g) × (l.runs ≤ 17 * l.g) × Totting (λ g'. group_sizes (final_at l.t.regions l.work (l.t.groups + 3 * g'))) l.t.count l.bytes l.runs l.g
