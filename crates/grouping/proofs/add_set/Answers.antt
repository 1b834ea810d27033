use Rattle.grouping.proofs.GroupSteps.{slot-in, entries-before, add_fit, set-added}
use native.Mathlib.Omega.{arith}
use Rattle.grouping.proofs.add_set.Goals as goal

pub overflow_mul-slot : goal.overflow_mul-slot
overflow_mul-slot c = omega (arith, slot-in c.requires)

pub overflow_add-slot : goal.overflow_add-slot
overflow_add-slot c = omega (arith, slot-in c.requires)

pub shape_of-requires : goal.shape_of-requires
shape_of-requires c = record { stored = c.requires.stored; work_bound = entries-before c.requires; regions_in_bounds = slot-in c.requires }

pub add_shape-requires : goal.add_shape-requires
add_shape-requires c = add_fit c.requires c.shape_of.ensures

pub returns : goal.returns
returns c = set-added c.requires c.shape_of.ensures _ c.add_shape.result c.add_shape.ensures
