use native.Mathlib.Omega.{arith}
use Rattle.merging.proofs.OptimizeLaws.{opening, optimize-begun, optimize-onward, optimize-few, optimized}
use Rattle.merging.proofs.optimizing.optimize.Goals as goal

pub weigh_each-tally-requires-clause-opening : goal.weigh_each-tally-requires-clause-opening
weigh_each-tally-requires-clause-opening c = opening _ _ _ c.requires.ready c.measure_all.ensures _ c.place_groups.ensures

pub join_all-end-requires-clause-some_standing : goal.join_all-end-requires-clause-some_standing
join_all-end-requires-clause-some_standing c = record { groups = _; standing = optimize-begun c.requires.ready c.measure_all.ensures c.size-before.ensures c.place_groups.ensures c.weigh_each-tally.ensures }

pub overflow_add-t : goal.overflow_add-t
overflow_add-t c = omega (arith, optimize-few c.requires.ready c.measure_all.ensures c.size-before.ensures c.place_groups.ensures c.weigh_each-tally.ensures c.join_all-end.ensures, c.requires.ready.shaped.laid)

pub resolve_all-requires : goal.resolve_all-requires
resolve_all-requires c = optimize-onward c.requires.ready c.measure_all.ensures c.size-before.ensures c.place_groups.ensures c.weigh_each-tally.ensures c.join_all-end.ensures

pub returns-clause-optimized : goal.returns-clause-optimized
returns-clause-optimized c = optimized c.requires.ready c.measure_all.ensures c.size-before.ensures c.place_groups.ensures c.weigh_each-tally.ensures c.join_all-end.ensures c.resolve_all.ensures
