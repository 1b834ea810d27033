use Rattle.grouping.proofs.AddSteps.{searchable, join-fit, join_one, new-fit, new-one, add_none}
use native.Mathlib.Omega.{arith}
use Rattle.grouping.proofs.add_shape.Goals as goal

pub find_shape-requires : goal.find_shape-requires
find_shape-requires c = searchable c.requires

pub join_group-requires : goal.join_group-requires
join_group-requires c = join-fit c.requires c.in-Ok.ensures

pub returns-in-Ok : goal.returns-in-Ok
returns-in-Ok c = join_one c.requires c.in-Ok.ensures c.join_group.ensures

pub new_group-requires : goal.new_group-requires
new_group-requires c = new-fit c.requires c.in-Err.ensures (omega arith)

pub returns-in-Err : goal.returns-in-Err
returns-in-Err c = new-one c.requires c.in-Err.ensures (omega arith) c.new_group.ensures

pub returns-in-Err-2 : goal.returns-in-Err-2
returns-in-Err-2 c = add_none c.requires c.in-Err-2.ensures (omega arith)
