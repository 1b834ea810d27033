use native.Mathlib.Omega.{arith}
use Rattle.tallying.proofs.TallyLaws.{head-there, offset-in, slot-there}
use Rattle.job_writing.proofs.PieceLaws.{piece-put, piece-done}
use Rattle.job_writing.proofs.SetLaws.{slots-put, slots-step, slots-room, slots_end}
use Rattle.job_writing.proofs.set_records.write_sets.Goals as goal

pub be-n-requires : goal.be-n-requires
be-n-requires c = record { k_bound = omega arith; k_in_bounds = omega (arith, head-there _ c.requires.s_value.0) }

pub loop-o-init : goal.loop-o-init
loop-o-init c = slots-put _ _ c.be-n.ensures.is _ _

pub be-requires : goal.be-requires
be-requires c = record { k_bound = omega arith; k_in_bounds = omega (arith, offset-in _ c.requires.s_value.0 _ _ c.be-n.ensures.is c.loop-o-test.true) }

pub write_slot-p-requires : goal.write_slot-p-requires
write_slot-p-requires c =
    let ok = c.requires.s_value.0 in
    let t = c.loop-o-test.true in
    record { slot_in = (slot-there _ ok _ _ _ c.be-n.ensures.is t c.be.ensures.is, c.requires.s_value.1); table_in_bounds = slots-room _ _ _ _ t c.be.ensures.is c.requires.s_in_bounds c.loop-o.invariant }

pub loop-o-preserved : goal.loop-o-preserved
loop-o-preserved c = piece-put _ _ c.requires.s_in_bounds c.loop-o.invariant (slots-step _ _ _ _ c.loop-o-test.true c.be.ensures.is) c.write_slot-p.ensures

pub returns : goal.returns
returns c = piece-done c.loop-o.invariant (slots_end _ _ _ (omega arith))
