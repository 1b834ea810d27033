use native.Mathlib.Omega.{arith}
use Rattle.cutting.proofs.TableLaws.{names_more, names-done}
use Rattle.cutting.proofs.table.write_columns.Goals as goal

pub loop-j-preserved : goal.loop-j-preserved
loop-j-preserved c = names_more _ _ _ _ _ _ _ (omega arith) _ _ _ _ _ c.loop-j.invariant (omega arith) c.be-r.ensures.is c.put.ensures

pub returns : goal.returns
returns c = names-done _ _ _ _ _ _ _ _ _ _ c.loop-j.invariant (omega arith)
