use mathlib.Core.Path.{◌≡◌}
use Prim.Native.Nat.{◌+◌, ◌-◌, ◌*◌, ◌≤◌, min}
use Rattle.laws.specs.Bounded.{tabulate}
use Rattle.rows.specs.Subtable.{run_count_for}
use Rattle.store.specs.Lent.{subtable_size, sum_of}
use Rattle.planning.proofs.size.size_runs.Given as goal

abbrev pub invariant-loop-k : goal.invariant-loop-k
invariant-loop-k l =
    (l.bytes ≤ 34359738368 * l.k)
    × (l.bytes + sum_of (tabulate l.k (run_count_for l.count - l.k) (λ k'. subtable_size l.n l.row (min 65535 (l.count - 65535 * k')))) ≡ sum_of (tabulate 0 (run_count_for l.count) (λ k'. subtable_size l.n l.row (min 65535 (l.count - 65535 * k')))))
