use Prim.Native.Nat.{◌+◌}
use mathlib.Core.Path.{refl}
use Rattle.finishing.proofs.LoopLaws.{told-start, told-size, told_more, told-done}
use native.Mathlib.Omega.{arith}
use Rattle.finishing.proofs.finishing.write_origins.Goals as goal

pub loop-i-init : goal.loop-i-init
loop-i-init c = (refl, told-start _ c.args.p c.args.work.now)

pub loop-i-preserved : goal.loop-i-preserved
loop-i-preserved c =
    let a = c.args in
    let q = c.requires in
    let l = c.loop-i in
    let more = told_more a.to.now a.p a.work.now l.i a.groups l.to l.invariant.1 c.loop-i-test.true q.groups_in_bounds in
    (told-size a.to.now a.p a.work.now (l.i + 1) _ more (omega (arith, c.loop-i-test, q.groups_in_bounds)), more)

pub returns : goal.returns
returns c =
    let a = c.args in
    let l = c.loop-i in
    told-done a.to.now a.p a.work.now l.i a.groups l.to l.invariant.1 (omega arith) (omega arith)
