use Rattle.cells.proofs.NextLaws.{run-narrow, run-wide}
use native.Mathlib.Omega.{arith}
use Rattle.cells.proofs.next.run_end.Goals as goal

pub returns-then-w-i : goal.returns-then-w-i
returns-then-w-i c = run-narrow _ _ _ c.requires (omega arith)

pub returns-then-w-n : goal.returns-then-w-n
returns-then-w-n c = run-wide _ _ _ _ (omega arith) (omega arith) (omega arith)

pub returns : goal.returns
returns c = run-wide _ _ _ _ c.requires (omega arith) (omega arith)
