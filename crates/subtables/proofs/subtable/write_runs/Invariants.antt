use mathlib.Core.Path.{◌≡◌}
use Prim.Native.Nat.{◌-◌}
use lib.ListN.{length}
use Rattle.laws.specs.LentRange.{seg}
use Rattle.laws.specs.Bounded.{tabulate}
use Rattle.laws.specs.Joining.{join_all}
use Rattle.rows.specs.Subtable.{run_count_for}
use Rattle.rows.specs.Lent.{number_in, set_at, table_bytes, run_at, runs_bytes}
use Rattle.rows.proofs.PutLaws.{Putting}
use Rattle.subtables.proofs.subtable.write_runs.Given as goal

abbrev pub invariant-loop-k : goal.invariant-loop-k
invariant-loop-k l =
    (l.runs ≡ run_count_for (length (seg l.sets.ids l.sets.count l.work)))
    × Putting l.at (runs_bytes (table_bytes (number_in l.numbers) l.word l.cols (set_at l.sets.index l.work)) (seg l.sets.ids l.sets.count l.work)) l.initial.out l.out l.a
    (join_all (tabulate l.k (run_count_for (length (seg l.sets.ids l.sets.count l.work)) - l.k) (λ i. table_bytes (number_in l.numbers) l.word l.cols (set_at l.sets.index l.work) (run_at (seg l.sets.ids l.sets.count l.work) i))))
