use Rattle.slots.proofs.SlotLaws.{measuring-shaped, measuring-more, measuring-done}
use native.Mathlib.Omega.{arith}
use Rattle.slots.proofs.groups.measure_all.Goals as goal

pub measure-requires : goal.measure-requires
measure-requires c = record { shaped = measuring-shaped _ _ c.requires _ _ c.loop-s.invariant; s_lt_groups = c.loop-s-test.true }

pub loop-s-preserved : goal.loop-s-preserved
loop-s-preserved c = measuring-more _ _ c.requires _ _ _ c.loop-s.invariant c.loop-s-test.true c.measure.ensures

pub returns : goal.returns
returns c = measuring-done _ _ c.requires _ _ c.loop-s.invariant (omega arith)
