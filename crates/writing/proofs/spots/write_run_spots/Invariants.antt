use mathlib.Core.Path.{◌≡◌}
use Prim.Native.Nat.{◌-◌, ◌*◌, min}
use Rattle.laws.specs.Bounded.{tabulate}
use Rattle.rows.specs.Subtable.{run_count_for}
use Rattle.store.specs.Lent.{run_sizes, subtable_size}
use Rattle.store.proofs.SpotLaws.{Spotting}
use Rattle.writing.proofs.spots.write_run_spots.Given as goal

abbrev pub invariant-loop-k : goal.invariant-loop-k
invariant-loop-k l =
    (l.runs ≡ run_count_for l.count)
    × Spotting l.at l.first (run_sizes l.n l.row l.count) l.initial.out l.out l.p l.next (tabulate l.k (run_count_for l.count - l.k) (λ i. subtable_size l.n l.row (min 65535 (l.count - 65535 * i))))
