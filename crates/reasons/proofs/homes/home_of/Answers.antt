use mathlib.Core.Path.{refl}
use native.Mathlib.Omega.{arith}
use mathlib.Core.Path.{◌≡◌}
use Rattle.reasons.proofs.HomeLaws.{seek-here, seek-more, seek-done}
use Rattle.reasons.proofs.homes.home_of.Goals as goal

pub returns-then-place_in-n : goal.returns-then-place_in-n
returns-then-place_in-n c = let a = c.args in seek-here a.p a.count a.work.now c.requires c.loop-g.invariant _ _ refl c.place_in.ensures c.loop-g-test.true c.if-place_in-n.true

pub loop-g-preserved : goal.loop-g-preserved
loop-g-preserved c = let a = c.args in seek-more a.p a.count a.work.now c.requires c.loop-g.invariant _ _ refl c.place_in.ensures c.loop-g-test.true (omega arith)

pub returns : goal.returns
returns c = let a = c.args in let e : c.loop-g.g ≡ c.args.count = omega arith in rw e at (seek-done a.p a.count a.work.now c.requires c.loop-g.invariant (omega arith))
