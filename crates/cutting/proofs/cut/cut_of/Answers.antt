use native.Mathlib.Omega.{arith}
use Rattle.cutting.proofs.CutLaws.{cut-is, head_in}
use Rattle.cutting.proofs.cut.cut_of.Goals as goal

pub be-word-requires : goal.be-word-requires
be-word-requires c = record { k_bound = omega arith; k_in_bounds = omega (arith, head_in c.requires _ c.table_at-at.ensures.0) }

pub be-columns-requires : goal.be-columns-requires
be-columns-requires c = record { k_bound = omega arith; k_in_bounds = omega (arith, head_in c.requires _ c.table_at-at.ensures.0) }

pub returns : goal.returns
returns c = cut-is c.requires (λ k. omega (arith, c.type_inv.store k)) _ _ _ _ _ c.table_at-at.ensures c.be-word.ensures c.be-columns.ensures c.wide-from.ensures c.wide.ensures
