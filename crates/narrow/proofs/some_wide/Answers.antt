use mathlib.Core.Path.{sym, ◌∙◌}
use Rattle.narrow.proofs.WideLaws.{wide-start, wide-here, wide-later, wide-none}
use native.Mathlib.Omega.{arith}
use Rattle.narrow.proofs.some_wide.Goals as goal

pub loop-g-init : goal.loop-g-init
loop-g-init c = let a = c.args in wide-start a.work.now a.t.regions a.t.groups a.t.count

pub returns-then-form-gt-COLUMNS : goal.returns-then-form-gt-COLUMNS
returns-then-form-gt-COLUMNS c =
    let a = c.args in let l = c.loop-g in
    wide-here a.work.now a.t.regions a.t.groups a.t.count l.g _ _ c.loop-g-test.true c.form_of-form.ensures c.if-form-gt-COLUMNS.true ∙ l.invariant

pub loop-g-preserved : goal.loop-g-preserved
loop-g-preserved c =
    let a = c.args in let l = c.loop-g in
    sym (wide-later a.work.now a.t.regions a.t.groups a.t.count l.g _ _ c.loop-g-test.true c.form_of-form.ensures (omega (arith, c.if-form-gt-COLUMNS.false))) ∙ l.invariant

pub returns : goal.returns
returns c =
    let a = c.args in let l = c.loop-g in
    wide-none a.work.now a.t.regions a.t.groups a.t.count l.g (omega (arith, c.loop-g-test.false)) ∙ l.invariant
