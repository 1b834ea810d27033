use Prim.Native.Nat.{◌+◌, ◌*◌, ◌≤◌}
use lib.ListN.{length}
use Rattle.laws.specs.LentRange.{seg}
use Rattle.laws.proofs.RangeLaws.{length-seg}
use Rattle.reader.specs.Store.{column_start}
use Rattle.rows.specs.Lent.{number_in, set_at}
use Rattle.rows.proofs.PutLaws.{index-length}
use Rattle.rows.proofs.RunLaws.{empty-put, head-length, table-room, table-put}
use native.Mathlib.Omega.{arith}
use Rattle.subtables.proofs.subtable.write_table.Goals as goal

pub returns-then-sets-eq0 : goal.returns-then-sets-eq0
returns-then-sets-eq0 c =
    let a = c.args in
    empty-put _ _ _ _ _ _ _ _ (length-seg a.sets.list.ids a.sets.list.count a.sets.work.now c.args.sets.within) c.requires.table_in_bounds c.if-sets-eq0.true

pub write_head-a-requires : goal.write_head-a-requires
write_head-a-requires c =
    let room : c.args.at + 6 + 2 * length c.args.columns.regions.now + c.args.sets.list.count * column_start c.args.columns.word (length c.args.columns.regions.now) ≤ length c.args.out.now = let a = c.args in
    table-room (number_in a.numbers.now) a.columns.word a.columns.regions.now (set_at a.sets.list.index a.sets.work.now) (seg a.sets.list.ids a.sets.list.count a.sets.work.now) a.sets.list.count a.at a.out.now (length-seg a.sets.list.ids a.sets.list.count a.sets.work.now c.args.sets.within) c.requires.table_in_bounds c.if-sets-eq0.false in
    record { at_in_bounds = omega (arith, room); bound = c.requires.count_bound; word_bound = c.args.columns.word_bound; count_bound = c.args.columns.few }

pub write_indexes-b-requires : goal.write_indexes-b-requires
write_indexes-b-requires c =
    let room : c.args.at + 6 + 2 * length c.args.columns.regions.now + c.args.sets.list.count * column_start c.args.columns.word (length c.args.columns.regions.now) ≤ length c.args.out.now = let a = c.args in
    table-room (number_in a.numbers.now) a.columns.word a.columns.regions.now (set_at a.sets.list.index a.sets.work.now) (seg a.sets.list.ids a.sets.list.count a.sets.work.now) a.sets.list.count a.at a.out.now (length-seg a.sets.list.ids a.sets.list.count a.sets.work.now c.args.sets.within) c.requires.table_in_bounds c.if-sets-eq0.false in
    let a = c.args in
    record { cols_len_bound = c.args.columns.few; cols_value = c.requires.regions_value; cols_in_bounds = omega (arith, room, c.write_head-a.ensures.end, c.write_head-a.auto.out, head-length a.sets.list.count a.columns.word (length a.columns.regions.now)) }

pub write_rows-requires : goal.write_rows-requires
write_rows-requires c =
    let room : c.args.at + 6 + 2 * length c.args.columns.regions.now + c.args.sets.list.count * column_start c.args.columns.word (length c.args.columns.regions.now) ≤ length c.args.out.now = let a = c.args in
    table-room (number_in a.numbers.now) a.columns.word a.columns.regions.now (set_at a.sets.list.index a.sets.work.now) (seg a.sets.list.ids a.sets.list.count a.sets.work.now) a.sets.list.count a.at a.out.now (length-seg a.sets.list.ids a.sets.list.count a.sets.work.now c.args.sets.within) c.requires.table_in_bounds c.if-sets-eq0.false in
    let a = c.args in
    omega (arith, room, c.write_head-a.ensures.end, c.write_head-a.auto.out, head-length a.sets.list.count a.columns.word (length a.columns.regions.now), c.write_indexes-b.ensures.end, c.write_indexes-b.auto.out, index-length (number_in a.numbers.now) a.columns.regions.now)

pub returns : goal.returns
returns c =
    let a = c.args in
    table-put _ _ _ _ _ _ _ _ (length-seg a.sets.list.ids a.sets.list.count a.sets.work.now c.args.sets.within) c.requires.table_in_bounds c.if-sets-eq0.false _ _ _ _ _ _ c.write_head-a.ensures c.write_indexes-b.ensures c.write_rows.ensures
