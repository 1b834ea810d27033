use Rattle.rows.proofs.RunLaws.{run-starts}
use native.Mathlib.Omega.{arith}
use Rattle.rows.proofs.runs.run_items.Goals as goal

pub overflow_mul-left : goal.overflow_mul-left
overflow_mul-left c = omega (arith, run-starts c.args.count c.args.k c.requires.k_bound)

pub overflow_sub-left : goal.overflow_sub-left
overflow_sub-left c = omega (arith, run-starts c.args.count c.args.k c.requires.k_bound)
