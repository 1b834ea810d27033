use mathlib.Core.Path.{sym, ◌∙◌}
use Rattle.panel.proofs.OddLaws.{odd-here, odd-later, odd-start, odd-none}
use native.Mathlib.Omega.{arith}
use Rattle.panel.proofs.records_of.check_all.Goals as goal

pub loop-i-init : goal.loop-i-init
loop-i-init c = let a = c.args in odd-start a.job.now a.limit

pub returns-in-Err : goal.returns-in-Err
returns-in-Err c =
    let a = c.args in let l = c.loop-i in
    odd-here a.job.now a.limit l.i (omega arith) c.in-Err.refusal c.in-Err.ensures ∙ l.invariant

pub loop-i-preserved : goal.loop-i-preserved
loop-i-preserved c =
    let a = c.args in let l = c.loop-i in
    sym (odd-later a.job.now a.limit l.i (omega arith) c.in_default.ensures) ∙ l.invariant

pub returns : goal.returns
returns c =
    let a = c.args in let l = c.loop-i in
    odd-none a.job.now a.limit l.i (omega arith) ∙ l.invariant
