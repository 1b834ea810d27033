use Rattle.rows.proofs.PutLaws.{Putting}
use Rattle.recovering.specs.Recovering.{sets_bytes}
use Rattle.tallying.specs.LentTally.{rows_in}
use Rattle.tallying.proofs.TableLaws.{Rowing, rows_from}
use Rattle.job_writing.proofs.set_records.write_table.Given as goal

abbrev pub invariant-loop-i : goal.invariant-loop-i
invariant-loop-i l = Rowing l.s l.table l.items l.long l.row l.i × Putting l.at (sets_bytes (rows_in l.s l.table)) l.initial.out l.out l.p (sets_bytes (rows_from l.s l.table l.items l.i))
