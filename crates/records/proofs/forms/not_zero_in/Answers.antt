use Rattle.records.proofs.FormLaws.{two_here, two_then}
use Rattle.records.proofs.forms.not_zero_in.Goals as goal

pub returns-then-b-ne0 : goal.returns-then-b-ne0
returns-then-b-ne0 c =
    let a = c.args in
    two_here a.rec.now a.from a.to a.then a.end c.not_zero-b.result c.not_zero-b.ensures c.if-b-ne0.true

pub returns : goal.returns
returns c =
    let a = c.args in
    two_then a.rec.now a.from a.to a.then a.end c.not_zero-b.result c.not_zero-b.ensures c.requires.0 c.if-b-ne0.false c.not_zero.result c.not_zero.ensures
