use mathlib.Core.Path.{◌≡◌}
use Prim.Native.Nat.{◌+◌, ◌-◌, ◌*◌, ◌≤◌}
use lib.ListN.{length}
use Rattle.laws.specs.Bounded.{tabulate}
use Rattle.laws.specs.Joining.{join_all}
use Rattle.store.specs.Placing.{all_runs, id_words, runs_of, stored}
use Rattle.store.specs.Lent.{final_at, finals_at}
use Rattle.writing.proofs.ids.write_map.Given as goal

abbrev pub invariant-loop-g : goal.invariant-loop-g
invariant-loop-g l =
    (l.g ≤ l.t.count)
    × (l.first ≤ 17 * l.g)
    × (length l.map ≡ length l.initial.map)
    × (stored (id_words l.first (join_all (tabulate l.g (l.t.count - l.g) (λ i. runs_of (final_at l.t.regions l.work (l.t.groups + 3 * i)))))) l.map ≡ stored (id_words 0 (all_runs (finals_at l.t.regions l.t.groups l.t.count l.work))) l.initial.map)
