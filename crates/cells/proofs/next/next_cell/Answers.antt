use Rattle.cells.proofs.NextLaws.{word_in, wide-some, cells-some, next_here, next_more}
use native.Mathlib.Omega.{arith}
use Rattle.cells.proofs.next.next_cell.Goals as goal

pub bounds-work-at : goal.bounds-work-at
bounds-work-at c = omega (arith, word_in _ _ _ _ _ _ _ c.requires _ c.loop-i-test.true, c.column_at.ensures.value)

pub returns-then-zeros-k : goal.returns-then-zeros-k
returns-then-zeros-k c = next_here _ _ _ _ _ _ _ c.requires _ _ _ _ c.loop-i.invariant c.loop-i-test.true c.column_bytes-k.ensures.value c.column_at.ensures.value c.wide-zeros.ensures c.if-zeros-k.true

pub nonzero_div-cells : goal.nonzero_div-cells
nonzero_div-cells c = omega (arith, wide-some _ _ _ _ _ _ _ c.requires _ c.loop-i-test.true, c.column_bytes-k.ensures.value)

pub loop-i-smaller-then-cells-end : goal.loop-i-smaller-then-cells-end
loop-i-smaller-then-cells-end c = omega (arith, c.run_end-end.ensures.within, cells-some _ _ (omega (arith, wide-some _ _ _ _ _ _ _ c.requires _ c.loop-i-test.true, c.column_bytes-k.ensures.value)) c.if-zeros-k.false)

pub loop-i-preserved-then-cells-end : goal.loop-i-preserved-then-cells-end
loop-i-preserved-then-cells-end c = next_more _ _ _ _ _ _ _ c.requires _ _ _ _ c.loop-i.invariant c.loop-i-test.true c.column_bytes-k.ensures.value c.column_at.ensures.value c.wide-zeros.ensures _ _ c.run_end-end.ensures (omega (arith, cells-some _ _ (omega (arith, wide-some _ _ _ _ _ _ _ c.requires _ c.loop-i-test.true, c.column_bytes-k.ensures.value)) c.if-zeros-k.false)) (omega arith) (omega arith)

pub loop-i-preserved : goal.loop-i-preserved
loop-i-preserved c = next_more _ _ _ _ _ _ _ c.requires _ _ _ _ c.loop-i.invariant c.loop-i-test.true c.column_bytes-k.ensures.value c.column_at.ensures.value c.wide-zeros.ensures _ _ c.run_end-end.ensures c.run_end-end.ensures.behind (omega arith) (omega arith)
