use Rattle.rows.proofs.PutLaws.{Putting}
use Rattle.stores.specs.Stores.{store_at}
use Rattle.recovering.specs.Recovering.{rows_of, sets_bytes}
use Rattle.job_writing.proofs.SetLaws.{slots_left}
use Rattle.job_writing.proofs.set_records.write_sets.Given as goal

abbrev pub invariant-loop-o : goal.invariant-loop-o
invariant-loop-o l = Putting l.at (sets_bytes (rows_of (store_at l.s).tables)) l.initial.out l.out l.p (slots_left l.s l.n l.o)
