use Prim.Native.Nat.{suc, ◌+◌, ◌-◌, ◌*◌, ◌^◌, ◌≤◌, ◌<◌}
use mathlib.Core.Path.{◌≡◌, sym, ap, ◌∙◌}
use borrow.Author.Tests.{lt-ltb, le-ltb}
use native.Mathlib.Omega.{arith}
use lib.IntN.{negsuc}
use mir.Syntax.{w32}
use mir.ValLaws.{to_z_pos}
use Rattle.laws.specs.Signed.{signed}
use Rattle.laws.proofs.BytesLaws.{pow-top}
use Rattle.reader.proofs.StoreLaws.{neg-back}
use Rattle.reader.proofs.reader.signed.Goals as goal

pub overflow_mul-x : goal.overflow_mul-x
overflow_mul-x c = omega (arith, pow-top 4 c.requires.0)

pub overflow_cast-result : goal.overflow_cast-result
overflow_cast-result c = record { sfits = omega (arith, pow-top 4 c.requires.0) }

pub returns-then-x-m : goal.returns-then-x-m
unfolding signed
returns-then-x-m c =
    let x = c.args.x in
    let k = c.args.k in
    let h : 2 * x < 256 ^ k = omega arith in
    to_z_pos w32 x (omega (arith, pow-top 4 c.requires.0)) ∙ sym (simp (lt-ltb _ _ h))

pub overflow_cast-result-2 : goal.overflow_cast-result-2
overflow_cast-result-2 c = record { sfits = omega (arith, pow-top 4 c.requires.0) }

pub returns : goal.returns
unfolding signed
returns c =
    let x = c.args.x in
    let k = c.args.k in
    let m = c.span-m.result in
    let h : 256 ^ k ≤ 2 * x = omega arith in
    let e : m - (x + 1) ≡ 256 ^ k - suc x = omega arith in
    neg-back (m - (x + 1)) (omega (arith, pow-top 4 c.requires.0)) ∙ ap negsuc e ∙ sym (simp (le-ltb _ _ h))
