use Prim.Native.Nat.{◌+◌, ◌-◌}
use Rattle.rows.proofs.PutLaws.{Putting}
use Rattle.recovering.specs.Recovering.{set_bytes}
use Rattle.tallying.specs.LentTally.{entries_in}
use Rattle.tallying.proofs.RowLaws.{left_from, AtCell}
use Rattle.job_writing.proofs.set_records.write_set.Given as goal

abbrev pub invariant-loop-j : goal.invariant-loop-j
invariant-loop-j l = AtCell l.s l.row l.word l.n l.j × Putting l.at (set_bytes (entries_in l.s l.table l.row)) l.initial.out l.out l.p (set_bytes (left_from l.s l.row l.word l.n (l.table + 6) l.j))

abbrev pub decreases-loop-j : goal.decreases-loop-j
decreases-loop-j l = l.n - l.j
