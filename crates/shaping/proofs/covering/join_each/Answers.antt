use Rattle.shaping.proofs.CoverSteps.{cover-start, cover-stored, cover-before, cover-room, cover-apart, join-rooms, cover-next, cover-done}
use native.Mathlib.Omega.{arith}
use Rattle.shaping.proofs.covering.join_each.Goals as goal

pub loop-x-init : goal.loop-x-init
loop-x-init c = cover-start c.requires

pub shape_of-requires-in-loop-x : goal.shape_of-requires-in-loop-x
shape_of-requires-in-loop-x c = record { stored = cover-stored c.requires c.loop-x.invariant (omega arith); work_bound = cover-before c.requires c.loop-x.invariant (omega arith); regions_in_bounds = cover-room c.requires c.loop-x.invariant (omega arith) }

pub join-requires : goal.join-requires
join-requires c = record { n_in_bounds = (join-rooms c.requires c.loop-x.invariant (omega arith) c.shape_of.ensures).0; n_in_bounds_2 = (join-rooms c.requires c.loop-x.invariant (omega arith) c.shape_of.ensures).1; apart = cover-apart c.requires c.loop-x.invariant (omega arith) }

pub loop-x-preserved : goal.loop-x-preserved
loop-x-preserved c = cover-next c.requires c.loop-x.invariant (omega arith) c.shape_of.ensures c.join.ensures

pub returns : goal.returns
returns c = cover-done c.requires c.loop-x.invariant (omega arith)
