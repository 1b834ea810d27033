use Rattle.reader.specs.Store.{words}
use Rattle.job_scan.proofs.WriteLaws.{Writing}
use Rattle.matching.proofs.write_listed.Given as goal

abbrev pub invariant-loop-k : goal.invariant-loop-k
invariant-loop-k l = Writing l.at l.n (words l.store l.p l.n) l.initial.work l.work l.k
