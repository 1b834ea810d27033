use Rattle.std.proofs.Common.{◌++◌, ◌+◌, ap, ◌∙◌, arith, set, take, drop}
use Rattle.std.proofs.Math.Nat.{zero-add}
use Rattle.std.proofs.lemmas.List.Edits.{paste_more}
use Rattle.laws.proofs.copy_slice.Goals as goal

pub loop-i-preserved : goal.loop-i-preserved
loop-i-preserved g c =
    let a = c.args in
    let l = c.loop-i in
    let v = c.index-from-i.result in
    let done = take l.i a.from.now ++ drop l.i a.to.now in
    let more = paste_more a.to.now 0 a.from.now l.i v (omega arith) (omega arith) in
    ap (λ w. set w l.i v) l.invariant ∙ ap (λ x. set done l.i x) c.index-from-i.is ∙ (rw (zero-add l.i, zero-add (l.i + 1)) at more)
