use native.Mathlib.Omega.{arith}
use Prim.Native.Nat.{◌+◌}
use Rattle.tallying.proofs.RowLaws.{at-cell, cell-in, row_inside}
use Rattle.job_writing.proofs.PieceLaws.{piece-put, piece-last, last-room}
use Rattle.job_writing.proofs.SetLaws.{set-put, set_more, set_room, set-end}
use Rattle.job_writing.proofs.set_records.write_set.Goals as goal

pub loop-j-init : goal.loop-j-init
loop-j-init c = (at-cell c.next_cell-j.ensures, set-put _ _ _ c.requires.row_in.0 _ _ c.be-word.ensures.is c.be-n.ensures.is _ _ c.next_cell-j.ensures (omega arith))

pub cell-x-requires : goal.cell-x-requires
cell-x-requires c = record { word_bound = (omega arith, omega arith); j_in_bounds = cell-in _ _ _ _ _ (row_inside _ _ _ c.requires.row_in.0 _ _ c.be-word.ensures.is c.be-n.ensures.is) (omega arith) }

pub put_value-requires : goal.put_value-requires
put_value-requires c = (set_room c.args.s.now c.args.row c.be-word.result c.be-n.result (c.args.table + 6) c.loop-j.j c.cell-x.result c.loop-j-test.true c.cell-x.ensures.is c.loop-j.invariant.0 c.requires.row_in_bounds c.loop-j.invariant.1, c.be-q.ensures.below)

pub loop-j-preserved : goal.loop-j-preserved
loop-j-preserved c = (
  at-cell c.next_cell-j-in-loop-j.ensures,
  piece-put _ _ c.requires.row_in_bounds c.loop-j.invariant.1 (set_more c.args.s.now c.args.row c.be-word.result c.be-n.result (c.args.table + 6) c.loop-j.j c.cell-x.result c.loop-j-test.true c.cell-x.ensures.is c.loop-j.invariant.0 c.next_cell-j-in-loop-j.ensures c.be-q.result c.column_bytes.result c.in_four.result c.be-q.ensures.is c.column_bytes.ensures.value c.in_four.ensures) c.put_value.ensures,
)

pub put_end-requires : goal.put_end-requires
put_end-requires c = omega (arith, last-room c.requires.row_in_bounds c.loop-j.invariant.1 (set-end c.args.s.now c.args.row c.be-word.result c.be-n.result (c.args.table + 6) c.loop-j.j c.loop-j-test.false))

pub returns : goal.returns
returns c = piece-last _ c.requires.row_in_bounds c.loop-j.invariant.1 (set-end c.args.s.now c.args.row c.be-word.result c.be-n.result (c.args.table + 6) c.loop-j.j c.loop-j-test.false) c.put_end.ensures
