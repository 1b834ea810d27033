use Rattle.cutting.proofs.TableLaws.{head-room, columns-in, names_in, columns-room, rows-room, words-in, rows_inside, table-put}
use Rattle.cutting.proofs.table.write_table.Goals as goal

pub write_head-p-requires : goal.write_head-p-requires
write_head-p-requires c = (head-room c.requires.table_fit c.cut_of-c.ensures c.args.at c.args.out.now c.requires.g_in_bounds, c.cut_of-c.ensures.rows-low, c.cut_of-c.ensures.word_low, c.cut_of-c.ensures.columns-low)

pub write_columns-q-requires : goal.write_columns-q-requires
write_columns-q-requires c =
    let o = c.args.out.now in
    let d = c.cut_of-c.ensures in
    record { n_bound = (d.columns-low, columns-in c.requires.table_fit d c.args.at o c.requires.g_in_bounds, columns-room c.requires.table_fit d c.args.at o c.requires.g_in_bounds c.write_head-p.ensures); names_fit = names_in c.requires.table_fit d c.args.at o c.requires.g_in_bounds c.requires.table_named }

pub write_rows-requires : goal.write_rows-requires
write_rows-requires c =
    let o = c.args.out.now in
    let d = c.cut_of-c.ensures in
    let a = c.write_head-p.ensures in
    let b = c.write_columns-q.ensures in
    let l = c.column_at-long.ensures.value in
    record { long_bound = (c.column_at-long.ensures.upper_bound, words-in c.requires.table_fit d c.args.at o c.requires.g_in_bounds a b _ l, rows-room c.requires.table_fit d c.args.at o c.requires.g_in_bounds a b _ l); by_index = rows_inside c.requires.table_fit d c.args.at o c.requires.g_in_bounds a b _ l }

pub returns : goal.returns
returns c = table-put c.requires.table_fit c.cut_of-c.ensures c.args.at c.args.out.now c.requires.g_in_bounds c.write_head-p.ensures c.write_columns-q.ensures _ c.column_at-long.ensures.value c.write_rows.ensures
