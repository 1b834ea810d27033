use lib.ListN.{length}
use mathlib.Core.Path.{◌≡◌}
use Rattle.reader.proofs.StoreLaws.{ok-below}
use Rattle.rows.proofs.PutLaws.{indexes-more, indexes-done}
use native.Mathlib.Omega.{arith}
use Rattle.subtables.proofs.subtable.write_indexes.Goals as goal

pub bounds-numbers-region : goal.bounds-numbers-region
bounds-numbers-region c = ok-below _ _ c.requires.cols_value c.loop-j.j (omega arith)

pub loop-j-preserved : goal.loop-j-preserved
loop-j-preserved c = indexes-more _ _ _ _ c.requires.cols_in_bounds _ _ _ c.loop-j.invariant (omega arith) c.put.ensures

pub returns : goal.returns
returns c =
    let e : c.loop-j.j ≡ length c.args.cols.now = omega arith in
    rw (← e) (indexes-done _ _ _ _ c.requires.cols_in_bounds _ _ c.loop-j.invariant (omega arith))
