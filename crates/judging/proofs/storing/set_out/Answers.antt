use Rattle.judging.proofs.StoringLaws.{set_out}
use native.Mathlib.Omega.{arith}
use borrow.Author.Rules.{rules}
use Rattle.judging.proofs.storing.set_out.Goals as goal

pub fill-requires : goal.fill-requires
fill-requires c = omega (arith, c.requires)

pub overflow_add-at : goal.overflow_add-at
overflow_add-at c = omega (arith, c.requires)

pub look_ahead-requires : goal.look_ahead-requires
look_ahead-requires c = omega (arith, c.requires, c.fill.ensures.only.long)

pub shape_of-work : goal.shape_of-work
shape_of-work c = search rules

pub returns : goal.returns
returns c = set_out _ _ _ _ _ _ c.fill.ensures c.look_ahead.ensures
