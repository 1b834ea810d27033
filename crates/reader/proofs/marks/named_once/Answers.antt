use mathlib.Core.Path.{sym, ◌∙◌}
use native.Mathlib.Omega.{arith}
use borrow.Author.Tests.{eqb-true, eqb-false, not-true, not-false}
use Rattle.reader.proofs.MarkLaws.{index-large, index-twice, index-more, index-done}
use Rattle.reader.proofs.marks.named_once.Goals as goal

pub returns-then-regions-x : goal.returns-then-regions-x
returns-then-regions-x c = record { value = (index-large _ _ _ _ c.loop-j.invariant (omega arith) c.be-x.ensures.is c.if-regions-x.true).0; seen_after = (index-large _ _ _ _ c.loop-j.invariant (omega arith) c.be-x.ensures.is c.if-regions-x.true).1 }

pub returns-then-not-mark : goal.returns-then-not-mark
returns-then-not-mark c = record { value = (index-twice _ _ _ _ c.loop-j.invariant (omega arith) c.be-x.ensures.is (omega arith) (eqb-false _ _ (sym c.mark.ensures.value ∙ not-true _ c.if-not-mark.true-raw)) c.mark.ensures.seen_after).0; seen_after = (index-twice _ _ _ _ c.loop-j.invariant (omega arith) c.be-x.ensures.is (omega arith) (eqb-false _ _ (sym c.mark.ensures.value ∙ not-true _ c.if-not-mark.true-raw)) c.mark.ensures.seen_after).1 }

pub loop-j-preserved : goal.loop-j-preserved
loop-j-preserved c = index-more _ _ _ _ c.loop-j.invariant (omega arith) c.be-x.ensures.is (omega arith) (omega arith) (eqb-true _ _ (sym c.mark.ensures.value ∙ not-false _ c.if-not-mark.false-raw)) c.mark.ensures.seen_after

pub returns : goal.returns
returns c = record { value = (index-done _ _ _ _ c.loop-j.invariant (omega arith)).0; seen_after = (index-done _ _ _ _ c.loop-j.invariant (omega arith)).1 }
