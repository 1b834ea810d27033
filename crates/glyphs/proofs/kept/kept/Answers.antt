use Prim.Native.Nat.{◌-◌}
use mathlib.Core.Path.{◌≡◌, sym, ◌∙◌}
use native.Mathlib.Omega.{arith}
use Rattle.glyphs.proofs.KeptLaws.{kept-stop, kept_again, kept-short, kept-told}
use Rattle.glyphs.proofs.kept.kept.Goals as goal

pub returns-then-words-i : goal.returns-then-words-i
returns-then-words-i c =
    let l = c.loop-i in
    let two : l.i - 1 - 1 ≡ l.i - 2 = omega arith in
    record { value = kept-told _ l.i (sym (kept-stop _ l.i (omega arith) (rw two at c.if-words-i.true)) ∙ l.invariant.2) (omega arith); upper_bound = omega arith }

pub loop-i-preserved : goal.loop-i-preserved
loop-i-preserved c =
    let l = c.loop-i in
    let two : l.i - 1 - 1 ≡ l.i - 2 = omega arith in
    (omega arith, omega arith, sym (kept_again _ l.i (omega arith) (rw two at c.if-words-i.false)) ∙ l.invariant.2)

pub returns : goal.returns
returns c =
    let l = c.loop-i in
    let e : c.min.result ≡ l.i = omega arith in
    record { value = e ∙ sym (kept-short _ l.i (omega arith)) ∙ l.invariant.2; upper_bound = omega arith }
