use mathlib.Core.Path.{refl}
use Prim.Native.Nat.{◌+◌, ◌-◌, ◌*◌}
use Rattle.giving.proofs.LayLaws.{laying-start, laying-more, aim-of}
use native.Mathlib.Omega.{arith}
use Rattle.giving.proofs.entries.lay.Goals as goal

pub loop-i-init : goal.loop-i-init
loop-i-init c = laying-start _ _ _ _ c.requires.entries_fit c.requires.clean

pub loop-i-preserved : goal.loop-i-preserved
loop-i-preserved c = laying-more _ _ _ _ c.requires.entries_fit _ _ c.loop-i.invariant (omega arith) _ refl _ (aim-of c.loop-i.work c.args.t (c.args.start + 2 * (c.loop-i.i - 1)) _ _ c.wide.ensures c.wide-q.ensures) (omega arith)
