use native.Mathlib.Omega.{arith}
use Rattle.cutting.proofs.NameLaws.{tables_start, tables_more, fit-now, columns-in, marks-in}
use Rattle.cutting.proofs.naming.mark_tables.Goals as goal

pub loop-g-init : goal.loop-g-init
loop-g-init c = tables_start c.requires.store_fit c.requires.by_index

pub cut_of-c-requires : goal.cut_of-c-requires
cut_of-c-requires c = fit-now c.requires.store_fit c.loop-g.invariant (omega arith)

pub mark_columns-requires : goal.mark_columns-requires
mark_columns-requires c = record { n_bound = (c.cut_of-c.ensures.columns-low, columns-in c.requires.store_fit c.loop-g.invariant (omega arith) c.cut_of-c.ensures); by_index = marks-in c.requires.store_fit c.loop-g.invariant (omega arith) c.cut_of-c.ensures }

pub loop-g-preserved : goal.loop-g-preserved
loop-g-preserved c = tables_more c.requires.store_fit c.loop-g.invariant (omega arith) c.cut_of-c.ensures c.mark_columns.ensures
