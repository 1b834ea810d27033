use Rattle.shapes.proofs.ShapeLaws.{column-most}
use Rattle.shapes.proofs.LentLaws.{measure-start, measure-more, measure-done, column-is}
use native.Mathlib.Omega.{arith}
use Rattle.shapes.proofs.shape.RowShape.joined.Goals as goal

pub loop-i-init : goal.loop-i-init
loop-i-init c = measure-start _ _ c.requires.a_len

pub overflow_add-columns : goal.overflow_add-columns
overflow_add-columns c = omega (arith, column-is _ _ c.from-columns.ensures, column-most c.max-width.result, c.requires.narrow.few)

pub loop-i-preserved : goal.loop-i-preserved
loop-i-preserved c =
    rw (column-is _ _ c.from-columns.ensures, c.max-width.ensures)
    (measure-more _ _ c.requires.a_len _ _ _ c.requires.narrow c.requires.narrow_2 c.loop-i.invariant (omega arith))

pub returns : goal.returns
returns c = measure-done _ _ c.requires.a_len _ _ _ c.loop-i.invariant (omega arith)
