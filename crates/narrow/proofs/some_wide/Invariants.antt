use mathlib.Core.Path.{◌≡◌}
use Prim.Native.Nat.{◌+◌, ◌-◌, ◌*◌}
use Rattle.laws.specs.Bounded.{tabulate}
use Rattle.store.specs.Lent.{final_at, finals_at}
use Rattle.narrow.specs.Columns.{is_some_wide}
use Rattle.narrow.proofs.some_wide.Given as goal

abbrev pub invariant-loop-g : goal.invariant-loop-g
invariant-loop-g l = is_some_wide (tabulate l.g (l.t.count - l.g) (λ k. final_at l.t.regions l.work (l.t.groups + 3 * k))) ≡ is_some_wide (finals_at l.t.regions l.t.groups l.t.count l.work)
