use native.Mathlib.Omega.{arith}
use Rattle.job_writing.proofs.RecordLaws.{span_is, span_low, four-small, four-large}
use Rattle.job_writing.proofs.records.in_four.Goals as goal

pub overflow_mul-x : goal.overflow_mul-x
overflow_mul-x c = omega (arith, c.requires.1, span_is c.args.k c.requires.0, span_low c.args.k c.requires.0)

pub returns-then-x-m : goal.returns-then-x-m
returns-then-x-m c = four-small _ _ _ c.requires.0 c.requires.1 (span_is c.args.k c.requires.0) (omega arith)

pub returns : goal.returns
returns c = four-large _ _ _ c.requires.0 c.requires.1 (span_is c.args.k c.requires.0) (omega arith)
