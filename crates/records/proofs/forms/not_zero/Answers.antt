use mathlib.Core.Path.{sym, ◌∙◌}
use Rattle.records.proofs.FormLaws.{look-here, look-more, look_none}
use native.Mathlib.Omega.{arith}
use Rattle.records.proofs.forms.not_zero.Goals as goal

pub returns-then-rec-b-ne0 : goal.returns-then-rec-b-ne0
returns-then-rec-b-ne0 c =
    let a = c.args in let l = c.loop-b in
    look-here a.rec.now l.b a.to (omega arith) c.if-rec-b-ne0.true ∙ l.invariant

pub loop-b-preserved : goal.loop-b-preserved
loop-b-preserved c =
    let a = c.args in let l = c.loop-b in
    sym (look-more a.rec.now l.b a.to (omega arith) c.if-rec-b-ne0.false) ∙ l.invariant

pub returns : goal.returns
returns c =
    let a = c.args in let l = c.loop-b in
    look_none a.rec.now l.b a.to (omega arith) ∙ l.invariant
