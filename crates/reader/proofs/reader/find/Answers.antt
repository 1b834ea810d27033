use mathlib.Core.Path.{◌∙◌}
use borrow.Author.Tests.{ne_eqb}
use native.Mathlib.Omega.{arith}
use Rattle.reader.specs.Store.{find}
use Rattle.reader.proofs.StoreLaws.{words_step}
use Rattle.reader.proofs.reader.find.Goals as goal

pub loop-j-preserved : goal.loop-j-preserved
unfolding find
loop-j-preserved c =
    let a = c.args in
    let l = c.loop-j in
    (omega arith, l.invariant.1 ∙ rw (words_step a.s.now a.at a.n l.j (omega arith), ← c.be.ensures.is, ne_eqb _ _ c.if-be-x.false))
