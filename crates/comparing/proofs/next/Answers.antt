use Rattle.comparing.proofs.WalkLaws.{next-only-right, next-only-left, next-left, next-right, next_both}
use native.Mathlib.Omega.{arith}
use Rattle.comparing.proofs.next.Goals as goal

pub returns-then-m-eq0 : goal.returns-then-m-eq0
returns-then-m-eq0 c = next-only-right _ _ _ _ _ (omega arith) (omega arith)

pub returns-then-n-eq0 : goal.returns-then-n-eq0
returns-then-n-eq0 c = next-only-left _ _ _ _ _ (omega arith) (omega arith)

pub returns-then-r-s : goal.returns-then-r-s
returns-then-r-s c = next-left _ _ _ _ _ (omega arith) (omega arith) (omega arith)

pub returns-then-s-r : goal.returns-then-s-r
returns-then-s-r c = next-right _ _ _ _ _ (omega arith) (omega arith) (omega arith)

pub returns : goal.returns
returns c = next_both _ _ _ _ _ (omega arith) (omega arith) (omega arith)
