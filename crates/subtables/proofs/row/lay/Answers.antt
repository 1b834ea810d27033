use mathlib.Core.Path.{◌≡◌, sym, ◌∙◌}
use Prim.Native.Nat.{◌+◌, ◌*◌, ◌-◌, ◌<◌}
use lib.ListN.{length, get_or}
use Rattle.laws.specs.Bytes.{bytes_of, over}
use Rattle.reader.specs.declared.column.Column.TheVariants.{At}
use Rattle.reader.specs.Store.{find, column_start, column_width}
use Rattle.reader.proofs.StoreLaws.{find-below}
use Rattle.reader.proofs.ColumnLaws.{at-fits}
use Rattle.rows.proofs.RowLaws.{lay-start, lay-skip, lay-put}
use native.Mathlib.Omega.{arith}
use Rattle.subtables.proofs.row.lay.Goals as goal

pub loop-i-init : goal.loop-i-init
loop-i-init c = lay-start _ _ _ _ _ _ c.requires.row_value

pub loop-i-preserved-in_default : goal.loop-i-preserved-in_default
loop-i-preserved-in_default c = lay-skip _ _ _ _ _ _ _ _ c.loop-i.invariant (omega arith) (sym (c.column_of.ensures _ c.args.columns.placed) ∙ c.in_default.is)

pub column_at-requires : goal.column_at-requires
column_at-requires c =
    let found : find (get_or c.args.work.now (c.args.start + 2 * (c.loop-i.i - 1)) 0) 0 c.args.columns.regions.now ≡ At c.in-At.j = sym (c.column_of.ensures _ c.args.columns.placed) ∙ c.in-At.is in
    let low : c.in-At.j < length c.args.columns.regions.now = omega (arith, find-below _ _ _ _ (found)) in
    record { word_bound = c.args.columns.word_bound; j_bound = omega (arith, low, c.args.columns.few) }

pub put-requires : goal.put-requires
put-requires c =
    let found : find (get_or c.args.work.now (c.args.start + 2 * (c.loop-i.i - 1)) 0) 0 c.args.columns.regions.now ≡ At c.in-At.j = sym (c.column_of.ensures _ c.args.columns.placed) ∙ c.in-At.is in
    let low : c.in-At.j < length c.args.columns.regions.now = omega (arith, find-below _ _ _ _ (found)) in
    omega (arith, at-fits c.args.columns.word c.in-At.j (length c.args.columns.regions.now) (low), c.column_at.ensures.value, c.column_bytes.ensures.value, c.loop-i.invariant.long, c.requires.row_in_bounds)

pub loop-i-preserved : goal.loop-i-preserved
loop-i-preserved c =
    let found : find (get_or c.args.work.now (c.args.start + 2 * (c.loop-i.i - 1)) 0) 0 c.args.columns.regions.now ≡ At c.in-At.j = sym (c.column_of.ensures _ c.args.columns.placed) ∙ c.in-At.is in
    let e : c.put.new.out ≡ over c.loop-i.row (column_start c.args.columns.word c.in-At.j) (column_width c.args.columns.word c.in-At.j) (bytes_of (column_width c.args.columns.word c.in-At.j) c.twos.result) =
    rw (c.column_at.ensures.value, c.column_bytes.ensures.value) at c.put.ensures
    in
    lay-put _ _ _ _ _ _ _ _ c.loop-i.invariant (omega arith) _ _ _ c.args.columns.placed.ok (found) (rw c.twos.ensures at e) c.put.auto.out
