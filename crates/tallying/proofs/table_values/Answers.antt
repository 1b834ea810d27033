use native.Mathlib.Omega.{arith}
use Rattle.tallying.proofs.TableLaws.{sum-start, sum_more, sum_done}
use Rattle.tallying.proofs.table_values.Goals as goal

pub loop-i-init : goal.loop-i-init
loop-i-init c = sum-start _ _ _ _ _ _ c.requires.0 c.be-items.ensures.is c.be-word.ensures.is c.be-n.ensures.is c.column_at-long.ensures.value

pub loop-i-preserved : goal.loop-i-preserved
loop-i-preserved c = sum_more _ _ _ _ _ _ c.requires.0 c.be-items.ensures.is c.be-word.ensures.is c.be-n.ensures.is c.column_at-long.ensures.value _ _ _ c.loop-i.invariant (omega arith) _ c.row_values-count.ensures.value c.row_values-count.ensures.upper_bound

pub returns : goal.returns
returns c = record { value = sum_done _ _ _ _ _ _ c.requires.0 c.be-items.ensures.is c.be-word.ensures.is c.be-n.ensures.is c.column_at-long.ensures.value _ _ _ c.loop-i.invariant (omega arith); upper_bound = omega (arith, c.loop-i.invariant.few, c.loop-i.invariant.rowing.within) }
