use Rattle.giving.proofs.WordLaws.{head_of, table-head, row-fit}
use native.Mathlib.Omega.{arith}
use Rattle.giving.proofs.failing.set_gives.Goals as goal

pub be-requires : goal.be-requires
be-requires c = record { k_bound = omega (arith, (head_of _ c.requires.parsed).head); k_in_bounds = omega (arith, (head_of _ c.requires.parsed).head) }

pub be-at-requires : goal.be-at-requires
be-at-requires c = record { k_bound = omega (arith, (head_of _ c.requires.parsed).offsets, c.be.ensures.is); k_in_bounds = omega (arith, (head_of _ c.requires.parsed).offsets, c.be.ensures.is) }

pub be-requires-2 : goal.be-requires-2
be-requires-2 c = record { k_bound = omega (arith, table-head _ c.args.words.now c.args.k _ _ _ c.wide-w.ensures _ c.be-at.ensures.is c.requires (omega arith) _ c.be.ensures.is (omega arith) c.if-at-eq0.false); k_in_bounds = omega (arith, table-head _ c.args.words.now c.args.k _ _ _ c.wide-w.ensures _ c.be-at.ensures.is c.requires (omega arith) _ c.be.ensures.is (omega arith) c.if-at-eq0.false) }

pub row_gives-requires : goal.row_gives-requires
row_gives-requires c = row-fit _ c.args.words.now c.args.k _ _ _ c.wide-w.ensures _ c.be-at.ensures.is c.requires (omega arith) _ c.be.ensures.is (omega arith) c.if-at-eq0.false _ c.be-2.ensures.is (omega arith) (omega (arith, c.be-at.ensures.below)) _ _ c.wide-start.ensures c.wide-count.ensures
