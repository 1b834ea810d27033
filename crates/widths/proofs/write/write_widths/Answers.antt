use Rattle.std.proofs.lemmas.Result.{err_from_is_err_and}
use mathlib.Core.Path.{sym, ◌∙◌}
use borrow.Author.Tests.{eqb-true, eqb-false}
use Rattle.widths.proofs.AnswerLaws.{room-is, short-answer, short-left, bare-answer, bare-left, cut-answer, cut_left, done-small, done-answer, done-left}
use native.Mathlib.Omega.{arith}
use Rattle.widths.proofs.write.write_widths.Goals as goal

pub returns-then-end-lt20 : goal.returns-then-end-lt20
returns-then-end-lt20 c =
    let a = c.args in
    let few = c.if-words-gt-MOST.false in
    let e = room-is _ _ c.min-end.ensures in
    record { value = short-answer a.store.now a.words.now a.out.now few _ e (omega arith); out_after = short-left a.store.now a.words.now a.out.now few _ e (omega arith) }

pub returns-then-end-store : goal.returns-then-end-store
returns-then-end-store c =
    let a = c.args in
    let few = c.if-words-gt-MOST.false in
    let e = room-is _ _ c.min-end.ensures in
    record { value = short-answer a.store.now a.words.now a.out.now few _ e (omega arith); out_after = short-left a.store.now a.words.now a.out.now few _ e (omega arith) }

pub returns-then-is_empty : goal.returns-then-is_empty
returns-then-is_empty c =
    let a = c.args in
    let few = c.if-words-gt-MOST.false in
    let e = room-is _ _ c.min-end.ensures in
    let none = eqb-true _ _ (sym c.is_empty.ensures ∙ c.if-is_empty.true) in
    record { value = bare-answer a.store.now a.words.now a.out.now few _ e (omega arith) none; out_after = bare-left a.store.now a.words.now a.out.now few _ e (omega arith) none _ _ c.write_front.ensures }

pub returns-in_err-n : goal.returns-in_err-n
returns-in_err-n c =
    let a = c.args in
    let few = c.if-words-gt-MOST.false in
    let e = room-is _ _ c.min-end.ensures in
    let some = eqb-false _ _ (sym c.is_empty.ensures ∙ c.if-is_empty.false) in
    let g = c.write_glyphs.ensures in
    let p = err_from_is_err_and c.from_residual.result c.from_residual.ensures.1 in
    record { value = rw (p.1, p.2) (cut-answer a.store.now a.words.now a.out.now few _ e (omega arith) some (omega arith) _ g.value _ c.in_err-n.was); out_after = cut_left a.store.now a.words.now a.out.now few _ e (omega arith) some (omega arith) _ g.value _ c.in_err-n.was _ g.out_after }

pub overflow_add-result : goal.overflow_add-result
overflow_add-result c =
    let a = c.args in
    let few = c.if-words-gt-MOST.false in
    let e = room-is _ _ c.min-end.ensures in
    let some = eqb-false _ _ (sym c.is_empty.ensures ∙ c.if-is_empty.false) in
    let g = c.write_glyphs.ensures in
    omega (arith, done-small a.store.now a.words.now a.out.now few _ e (omega arith) some (omega arith) _ g.value _ c.in_ok-n.was)

pub returns : goal.returns
returns c =
    let a = c.args in
    let few = c.if-words-gt-MOST.false in
    let e = room-is _ _ c.min-end.ensures in
    let some = eqb-false _ _ (sym c.is_empty.ensures ∙ c.if-is_empty.false) in
    let g = c.write_glyphs.ensures in
    record { value = done-answer a.store.now a.words.now a.out.now few _ e (omega arith) some (omega arith) _ g.value _ c.in_ok-n.was; out_after = done-left a.store.now a.words.now a.out.now few _ e (omega arith) some (omega arith) _ g.value _ c.in_ok-n.was _ _ _ g.out_after c.write_front-2.ensures }
