use native.Mathlib.Omega.{arith}
use Rattle.why_words.proofs.WhyTells.{gain-first, gain-second, gain-below, gain-above}
use borrow.Author.Rules.{rules}
use Rattle.why_words.proofs.told.gain_word.Goals as goal

pub returns-then-a-ge4611686018427387904 : goal.returns-then-a-ge4611686018427387904
returns-then-a-ge4611686018427387904 c = gain-first _ _ _ c.if-a-ge4611686018427387904.true

pub returns-then-b-ge4611686018427387904 : goal.returns-then-b-ge4611686018427387904
returns-then-b-ge4611686018427387904 c = gain-second _ _ _ (omega arith) c.if-b-ge4611686018427387904.true

pub overflow_add-a : goal.overflow_add-a
overflow_add-a c = search rules

pub overflow_add-result : goal.overflow_add-result
overflow_add-result c = search rules

pub overflow_sub-result : goal.overflow_sub-result
overflow_sub-result c = search rules

pub overflow_sub-result-then-a-b : goal.overflow_sub-result-then-a-b
overflow_sub-result-then-a-b c = search rules

pub overflow_sub-result-then-a-b-2 : goal.overflow_sub-result-then-a-b-2
overflow_sub-result-then-a-b-2 c = search rules

pub returns-then-a-b : goal.returns-then-a-b
returns-then-a-b c = gain-below _ _ _ (omega arith) (omega arith) c.if-a-b.true (omega arith)

pub overflow_add-result-2 : goal.overflow_add-result-2
overflow_add-result-2 c = search rules

pub overflow_sub-result-2 : goal.overflow_sub-result-2
overflow_sub-result-2 c = search rules

pub returns : goal.returns
returns c = gain-above _ _ _ (omega arith) (omega arith) (omega arith)
