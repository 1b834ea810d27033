use native.Mathlib.Omega.{arith}
use Rattle.tallying.proofs.RowLaws.{count-start, count-more, count-done}
use Rattle.tallying.proofs.row_values.Goals as goal

pub loop-j-init : goal.loop-j-init
loop-j-init c = count-start _ _ _ c.requires.0 _ _ c.be-word.ensures.is c.be-n.ensures.is c.next_cell-j.ensures (omega arith)

pub loop-j-preserved : goal.loop-j-preserved
loop-j-preserved c = count-more _ _ _ c.requires.0 _ _ c.be-word.ensures.is c.be-n.ensures.is c.loop-j.invariant (omega arith) c.next_cell-j-in-loop-j.ensures (omega arith)

pub returns : goal.returns
returns c = record { value = count-done _ _ _ c.requires.0 _ _ c.be-word.ensures.is c.be-n.ensures.is _ _ c.loop-j.invariant (omega arith); upper_bound = omega (arith, c.loop-j.invariant.few, c.loop-j.invariant.cell.within) }
