use Rattle.giving.proofs.PassLaws.{cell-in, column-room, passing-bad, passing-more, cell-of}
use native.Mathlib.Omega.{arith}
use Rattle.giving.proofs.columns.pass.Goals as goal

pub cell-v-requires : goal.cell-v-requires
cell-v-requires c = omega (arith, cell-in _ _ _ _ _ _ _ c.requires c.next_cell-i.result (omega arith), c.column_at.ensures.value, c.column_bytes.ensures.value, c.column_bytes.ensures.upper_bound)

pub bounds-work-t : goal.bounds-work-t
bounds-work-t c = column-room _ _ _ _ _ _ _ c.requires _ _ c.loop-j.invariant _ c.next_cell-i.ensures (omega arith) _ c.be-q.ensures.is

pub returns-then-work-t : goal.returns-then-work-t
returns-then-work-t c = passing-bad _ _ _ _ _ _ _ c.requires _ _ c.loop-j.invariant _ c.next_cell-i.ensures (omega arith) _ c.be-q.ensures.is _ (cell-of _ _ _ _ _ _ _ c.column_at.ensures.value c.column_bytes.ensures.value c.cell-v.ensures) c.if-work-t.true

pub bounds-work-t-in-loop-j : goal.bounds-work-t-in-loop-j
bounds-work-t-in-loop-j c = column-room _ _ _ _ _ _ _ c.requires _ _ c.loop-j.invariant _ c.next_cell-i.ensures (omega arith) _ c.be-q.ensures.is

pub loop-j-preserved : goal.loop-j-preserved
loop-j-preserved c = passing-more _ _ _ _ _ _ _ c.requires _ _ c.loop-j.invariant _ c.next_cell-i.ensures (omega arith) _ c.be-q.ensures.is _ (cell-of _ _ _ _ _ _ _ c.column_at.ensures.value c.column_bytes.ensures.value c.cell-v.ensures) c.if-work-t.false _ (omega arith)
