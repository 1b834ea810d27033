use native.Mathlib.Omega.{arith}
use Rattle.cutting.proofs.TableLaws.{row_room, row_in, rows_more, rows-done}
use Rattle.cutting.proofs.table.write_rows.Goals as goal

pub copy-p-requires : goal.copy-p-requires
copy-p-requires c = (row_room _ _ _ _ _ _ _ _ c.requires.by_index (omega arith) _ _ _ _ c.loop-i.invariant (omega arith) c.wide-row.ensures, row_in _ _ _ _ _ _ _ _ c.requires.by_index (omega arith) _ _ _ _ c.loop-i.invariant (omega arith) c.wide-row.ensures)

pub loop-i-preserved : goal.loop-i-preserved
loop-i-preserved c = rows_more _ _ _ _ _ _ _ _ c.requires.by_index (omega arith) _ _ _ _ c.loop-i.invariant (omega arith) c.wide-row.ensures _ _ c.copy-p.ensures

pub returns : goal.returns
returns c = rows-done _ _ _ _ _ _ _ _ c.requires.by_index _ _ _ c.loop-i.invariant (omega arith)
