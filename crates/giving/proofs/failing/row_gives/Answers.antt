use mathlib.Core.Bool.{not}
use mathlib.Core.Path.{ap}
use Rattle.reader.proofs.StoreLaws.{subtable-fits}
use Rattle.giving.proofs.RowLaws.{row_is, laid-true, passed-true, columns-fit, not-passed, row-judged}
use native.Mathlib.Omega.{arith}
use Rattle.giving.proofs.failing.row_gives.Goals as goal

pub be-word-requires : goal.be-word-requires
be-word-requires c = record { k_bound = omega (arith, (subtable-fits _ _ _ c.requires.good).head); k_in_bounds = omega (arith, (subtable-fits _ _ _ c.requires.good).head) }

pub be-n-requires : goal.be-n-requires
be-n-requires c = record { k_bound = omega (arith, (subtable-fits _ _ _ c.requires.good).head); k_in_bounds = omega (arith, (subtable-fits _ _ _ c.requires.good).head) }

pub pass-requires : goal.pass-requires
pass-requires c =
    let f = c.requires in
    columns-fit _ _ _ _ _ _ _ f _ (laid-true c.lay.ensures (ap not c.if-not-lay.false)) (λ k. omega (arith, c.type_inv.store k)) _ _ _ c.be-word.ensures.is c.be-n.ensures.is
    (row_is _ _ _ _ _ _ c.be-word.ensures.is c.be-n.ensures.is c.column_at.ensures.value)

pub returns-then-not-pass : goal.returns-then-not-pass
returns-then-not-pass c =
    let f = c.requires in
    not-passed _ _ _ _ _ _ _ f _ (laid-true c.lay.ensures (ap not c.if-not-lay.false)) (λ k. omega (arith, c.type_inv.store k)) _ _ _ c.be-word.ensures.is c.be-n.ensures.is
    (row_is _ _ _ _ _ _ c.be-word.ensures.is c.be-n.ensures.is c.column_at.ensures.value) _ c.pass.ensures (ap not c.if-not-pass.true)

pub returns : goal.returns
returns c =
    let f = c.requires in
    row-judged _ _ _ _ _ _ _ f _ (laid-true c.lay.ensures (ap not c.if-not-lay.false)) (λ k. omega (arith, c.type_inv.store k)) _ _ _ c.be-word.ensures.is c.be-n.ensures.is
    (row_is _ _ _ _ _ _ c.be-word.ensures.is c.be-n.ensures.is c.column_at.ensures.value) _ (passed-true c.pass.ensures (ap not c.if-not-pass.false)) _ c.all_met.ensures
