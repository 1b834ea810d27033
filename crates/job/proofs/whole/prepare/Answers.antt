use Rattle.job.proofs.WholeLaws.{prepared}
use native.Mathlib.Omega.{arith}
use borrow.Author.Rules.{rules}
use Rattle.job.proofs.whole.prepare.Goals as goal

pub find_firsts-requires : goal.find_firsts-requires
find_firsts-requires c = record { axes_in_bounds = search rules; axes_in_bounds_2 = search rules }

pub returns : goal.returns
returns c =
    let a = c.args in
    prepared a.axes a.regions a.records a.job.now a.work.now _ _ (omega (arith, c.requires)) (omega (arith, c.requires)) (omega (arith, c.requires)) (omega (arith, c.requires)) (omega (arith, c.requires))
    c.find_firsts.ensures c.zero_part.ensures
