use Rattle.job.proofs.EarlyLaws.{words-none, words-all, words-some}
use native.Mathlib.Omega.{arith}
use Rattle.job.proofs.early.work_words.Goals as goal

pub returns-then-records-gt-RECORDS : goal.returns-then-records-gt-RECORDS
returns-then-records-gt-RECORDS c = words-none _ _ (omega arith)

pub returns-then-regions-gt-REGIONS : goal.returns-then-regions-gt-REGIONS
returns-then-regions-gt-REGIONS c = words-all _ _ _ (omega arith) (omega arith) c.needed.ensures

pub returns : goal.returns
returns c = words-some _ _ _ (omega arith) (omega arith) c.needed-2.ensures
