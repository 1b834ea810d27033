use mathlib.Core.Path.{◌≡◌}
use Prim.Native.Nat.{◌+◌, ◌-◌}
use lib.ListN.{length}
use Rattle.laws.specs.Bounded.{tabulate}
use Rattle.shapes.specs.Shape.{Shape}
use Rattle.rows.specs.Subtable.{run_count_for}
use Rattle.store.specs.Placing.{id_words, runs_of, stored}
use Rattle.rows.specs.Lent.{run_at}
use Rattle.writing.proofs.ids.map_runs.Given as goal

abbrev pub invariant-loop-k : goal.invariant-loop-k
invariant-loop-k l =
    (s : Shape) → stored (id_words (l.first + l.k) (tabulate l.k (run_count_for (length l.ids) - l.k) (λ i. record { shape = s; ids = run_at l.ids i }))) l.map ≡ stored (id_words l.first (runs_of (record { shape = s; ids = l.ids }))) l.initial.map
