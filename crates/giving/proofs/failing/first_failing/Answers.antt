use Rattle.giving.proofs.WordLaws.{judging-more, judging-bad}
use native.Mathlib.Omega.{arith}
use Rattle.giving.proofs.failing.first_failing.Goals as goal

pub returns-then-not-set_gives : goal.returns-then-not-set_gives
returns-then-not-set_gives c = judging-bad _ _ _ _ _ c.requires _ _ c.loop-k.invariant (omega arith) _ _ c.set_gives.ensures c.if-not-set_gives.true

pub loop-k-preserved : goal.loop-k-preserved
loop-k-preserved c = judging-more _ _ _ _ _ c.requires _ _ c.loop-k.invariant (omega arith) _ _ c.set_gives.ensures c.if-not-set_gives.false
