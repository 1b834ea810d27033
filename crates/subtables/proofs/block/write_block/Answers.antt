use Prim.Native.Nat.{◌+◌, ◌≤◌}
use lib.ListN.{length, get_or}
use Rattle.reader.specs.Store.{column_start}
use Rattle.rows.specs.Lent.{Stored, row_bytes, cell_words, set_at}
use Rattle.rows.proofs.PutLaws.{part-over, rows-room, rows_more, rows-done}
use native.Mathlib.Omega.{arith}
use Rattle.subtables.proofs.block.write_block.Goals as goal

pub slice_bounds-write_set-count : goal.slice_bounds-write_set-count
slice_bounds-write_set-count c =
    let room : c.loop-i.a + column_start c.args.columns.word (length c.args.columns.regions.now) ≤ length c.loop-i.out = rows-room _ _ _ _ _ _ _ _ c.args.sets.within c.requires.rows_in_bounds _ _ _ c.loop-i.invariant c.loop-i-test.true in
    omega (arith, room)

pub slice_bounds-write_set-start : goal.slice_bounds-write_set-start
slice_bounds-write_set-start c =
    let room : c.loop-i.a + column_start c.args.columns.word (length c.args.columns.regions.now) ≤ length c.loop-i.out = rows-room _ _ _ _ _ _ _ _ c.args.sets.within c.requires.rows_in_bounds _ _ _ c.loop-i.invariant c.loop-i-test.true in
    omega (arith, room)

pub write_set-requires : goal.write_set-requires
write_set-requires c =
    let stored : Stored c.args.sets.list.index c.args.sets.work.now (get_or c.args.sets.work.now (c.args.sets.list.ids + c.loop-i.i) 0) = c.args.sets.stored c.loop-i.i c.loop-i-test.true in
    let room : c.loop-i.a + column_start c.args.columns.word (length c.args.columns.regions.now) ≤ length c.loop-i.out = rows-room _ _ _ _ _ _ _ _ c.args.sets.within c.requires.rows_in_bounds _ _ _ c.loop-i.invariant c.loop-i-test.true in
    record { row_in_bounds = omega (arith, room); stored = stored }

pub overflow_add-a : goal.overflow_add-a
overflow_add-a c =
    let room : c.loop-i.a + column_start c.args.columns.word (length c.args.columns.regions.now) ≤ length c.loop-i.out = rows-room _ _ _ _ _ _ _ _ c.args.sets.within c.requires.rows_in_bounds _ _ _ c.loop-i.invariant c.loop-i-test.true in
    omega (arith, room, c.row-n.ensures.value)

pub loop-i-preserved : goal.loop-i-preserved
loop-i-preserved c =
    let a = c.args in
    let l = c.loop-i in
    rows_more _ _ _ _ _ _ _ _ c.args.sets.within c.requires.rows_in_bounds _ _ _ l.invariant c.loop-i-test.true _ _ c.row-n.ensures.value (part-over l.out l.a (column_start a.columns.word (length a.columns.regions.now)) (row_bytes a.columns.word 0 (cell_words (set_at a.sets.list.index a.sets.work.now (get_or a.sets.work.now (a.sets.list.ids + l.i) 0)) a.columns.regions.now)) c.write_set.new.row c.write_set.ensures)

pub returns : goal.returns
returns c = rows-done _ _ _ _ _ _ _ _ c.args.sets.within c.requires.rows_in_bounds _ _ _ c.loop-i.invariant (omega arith)
