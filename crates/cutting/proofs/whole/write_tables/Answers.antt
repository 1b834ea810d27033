use native.Mathlib.Omega.{arith}
use Rattle.cutting.proofs.WholeLaws.{bodies-room, bodies-more, bodies-done}
use Rattle.cutting.proofs.whole.write_tables.Goals as goal

pub write_table-p-requires : goal.write_table-p-requires
write_table-p-requires c = record { table_fit = c.requires.store_fit.0.table _ (omega arith); table_named = c.requires.store_fit.1 _ (omega arith); g_in_bounds = bodies-room _ _ _ _ _ _ c.requires.t_in_bounds _ _ _ c.loop-g.invariant (omega arith) }

pub loop-g-preserved : goal.loop-g-preserved
loop-g-preserved c = bodies-more _ _ _ _ _ _ c.requires.t_in_bounds _ _ _ c.loop-g.invariant (omega arith) _ _ c.write_table-p.ensures

pub returns : goal.returns
returns c = bodies-done _ _ _ _ _ _ _ _ _ c.loop-g.invariant (omega arith)
