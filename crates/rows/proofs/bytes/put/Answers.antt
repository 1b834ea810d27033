use mathlib.Core.Path.{◌≡◌, sym, ◌∙◌}
use native.Mathlib.Omega.{arith}
use lib.ListN.{length-set}
use Rattle.laws.proofs.BytesLaws.{put_step, put-none}
use Rattle.rows.proofs.bytes.put.Goals as goal

pub loop-i-preserved : goal.loop-i-preserved
loop-i-preserved c =
    let l = c.loop-i in
    let a = c.args in
    (omega arith, simp length-set l.invariant.1, (put_step l.out a.at l.i l.y (omega arith) (omega arith) ∙ l.invariant.2))

pub returns : goal.returns
returns c =
    let l = c.loop-i in
    let e : l.i ≡ 0 = omega arith in
    sym (put-none l.out c.args.at l.y) ∙ (rw e at l.invariant.2)
