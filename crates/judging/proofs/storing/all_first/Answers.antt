use Rattle.judging.proofs.StoringLaws.{firsting-start, firsting-more, firsting-bad, firsting-done}
use native.Mathlib.Omega.{arith}
use Rattle.judging.proofs.storing.all_first.Goals as goal

pub loop-q-init : goal.loop-q-init
loop-q-init c = firsting-start _ _ _

pub returns-then-wide-q : goal.returns-then-wide-q
returns-then-wide-q c = firsting-bad _ _ _ _ _ (omega arith) c.wide.ensures c.if-wide-q.true

pub loop-q-preserved : goal.loop-q-preserved
loop-q-preserved c = firsting-more _ _ _ _ _ c.loop-q.invariant (omega arith) c.wide.ensures c.if-wide-q.false

pub returns : goal.returns
returns c = firsting-done _ _ _ _ c.loop-q.invariant (omega arith)
