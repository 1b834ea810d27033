use native.Mathlib.Omega.{arith}
use Rattle.stores.proofs.WholeLaws.{count-from}
use Rattle.tallying.proofs.TallyLaws.{axes-from, head-there, list-there, offset-in, slot-there, tally-start, tally-more, tally-done}
use Rattle.tallying.proofs.tally.Goals as goal

pub be-list-requires : goal.be-list-requires
be-list-requires c = record { k_bound = omega arith; k_in_bounds = omega (arith, head-there _ c.requires.0) }

pub be-axes-requires : goal.be-axes-requires
be-axes-requires c = record { k_bound = omega arith; k_in_bounds = omega (arith, list-there _ c.requires.0, c.be-list.ensures.is) }

pub be-regions-requires : goal.be-regions-requires
be-regions-requires c = record { k_bound = omega arith; k_in_bounds = omega (arith, list-there _ c.requires.0, c.be-list.ensures.is) }

pub be-n-requires : goal.be-n-requires
be-n-requires c = record { k_bound = omega arith; k_in_bounds = omega (arith, head-there _ c.requires.0) }

pub loop-o-init : goal.loop-o-init
loop-o-init c = tally-start _ c.requires.0 _ _ _ (axes-from _ _ _ c.be-list.ensures.is c.be-axes.ensures.is) (count-from _ _ _ c.be-list.ensures.is c.be-regions.ensures.is) c.be-n.ensures.is

pub be-requires : goal.be-requires
be-requires c = record { k_bound = omega arith; k_in_bounds = omega (arith, offset-in _ c.requires.0 _ _ c.be-n.ensures.is c.loop-o-test.true) }

pub add_slot-t-requires : goal.add_slot-t-requires
add_slot-t-requires c = record { slot_in = (slot-there _ c.requires.0 _ _ _ c.be-n.ensures.is c.loop-o-test.true c.be.ensures.is, c.requires.1); records_le_most_records = (omega arith, c.loop-o.invariant.fewer) }

pub loop-o-preserved : goal.loop-o-preserved
loop-o-preserved c = tally-more _ c.requires.0 _ _ _ _ _ c.be-n.ensures.is c.loop-o.invariant c.loop-o-test.true c.be.ensures.is (omega arith) _ _ c.add_slot-t.ensures

pub returns : goal.returns
returns c = tally-done _ c.requires.0 _ _ _ _ c.loop-o.invariant (omega arith)
