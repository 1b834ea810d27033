use Rattle.rows.proofs.RowLaws.{cleared-take}
use native.Mathlib.Omega.{arith}
use Rattle.subtables.proofs.row.write_row.Goals as goal

pub lay-requires : goal.lay-requires
lay-requires c = record { row_in_bounds = omega (arith, c.clear_row.auto.row, c.requires.row_in_bounds); row_value = cleared-take c.args.columns.word c.args.columns.regions.now c.args.row.now _ _ c.row.ensures.value c.clear_row.ensures; count_in_bounds = c.requires.count_in_bounds }
