use Rattle.laws.proofs.Products.{row_fits}
use Rattle.planes.specs.Plane.{plane_words}
use Rattle.planes.proofs.FillLaws.{long-few}
use Rattle.slots.proofs.TableLaws.{plane-row}
use native.Mathlib.Omega.{arith}
use Rattle.slots.proofs.tables.MergeTables.plane.Goals as goal

pub overflow_mul-long : goal.overflow_mul-long
overflow_mul-long c = omega (arith, c.plane_long-long.ensures, long-few c.args.self.regions c.requires.regions_bound)

pub overflow_mul-result : goal.overflow_mul-result
overflow_mul-result c =
    let a = c.args in
    omega (arith, plane-row a.s a.self.regions _ c.plane_long-long.ensures, row_fits (plane_words a.self.regions) a.self.groups a.s c.requires.s_lt_groups)

pub overflow_add-result : goal.overflow_add-result
overflow_add-result c =
    let a = c.args in
    omega (arith, plane-row a.s a.self.regions _ c.plane_long-long.ensures, row_fits (plane_words a.self.regions) a.self.groups a.s c.requires.s_lt_groups)

pub returns : goal.returns
returns c =
    let a = c.args in
    omega (arith, plane-row a.s a.self.regions _ c.plane_long-long.ensures)
