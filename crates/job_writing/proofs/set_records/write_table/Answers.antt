use native.Mathlib.Omega.{arith}
use Rattle.tallying.proofs.TableLaws.{rowing_start, rowing_more, row_in}
use Rattle.job_writing.proofs.PieceLaws.{piece-put, piece-done}
use Rattle.job_writing.proofs.SetLaws.{table-put, rows-bytes, rows-room, rows_none}
use Rattle.job_writing.proofs.set_records.write_table.Goals as goal

pub loop-i-init : goal.loop-i-init
loop-i-init c = (
  rowing_start _ _ _ _ _ _ c.requires.table_in.0 c.be-items.ensures.is c.be-word.ensures.is c.be-n.ensures.is c.column_at-long.ensures.value,
  table-put _ _ _ c.be-items.ensures.is _ _,
)

pub write_set-p-requires : goal.write_set-p-requires
write_set-p-requires c =
    let i = c.loop-i.invariant in
    let t = c.loop-i-test.true in
    record { row_in = (row_in _ _ _ _ _ _ c.requires.table_in.0 c.be-items.ensures.is c.be-word.ensures.is c.be-n.ensures.is c.column_at-long.ensures.value _ _ i.0 t, c.requires.table_in.1); row_in_bounds = rows-room _ _ _ _ _ t i.0.row_is c.requires.table_in_bounds i.1 }

pub loop-i-preserved : goal.loop-i-preserved
loop-i-preserved c =
    let i = c.loop-i.invariant in
    let t = c.loop-i-test.true in (
      rowing_more _ _ _ _ _ _ c.requires.table_in.0 c.be-items.ensures.is c.be-word.ensures.is c.be-n.ensures.is c.column_at-long.ensures.value _ _ i.0 t,
      piece-put _ _ c.requires.table_in_bounds i.1 (rows-bytes _ _ _ _ _ t i.0.row_is) c.write_set-p.ensures,
    )

pub returns : goal.returns
returns c = piece-done c.loop-i.invariant.1 (rows_none _ _ _ _ (omega arith))
