use Prim.Native.Nat.{◌+◌}
use Rattle.planes.proofs.JoinLaws.{count-start, count_next, count-done, or-few, measured}
use native.Mathlib.Omega.{arith}
use Rattle.planes.proofs.joining.measure_words.Goals as goal

pub loop-i-init : goal.loop-i-init
loop-i-init c = (count-start _ _ _ _, count-start _ _ _ _, count-start _ _ _ _)

pub overflow_add-one-in-loop-i-2 : goal.overflow_add-one-in-loop-i-2
overflow_add-one-in-loop-i-2 c =
    let w = c.args.work.now in let a = c.args.a in let b = c.args.b in let i = c.loop-i.i in
    omega (arith, c.loop-i.invariant.0.most, or-few w (a + i) (b + i) (λ k. omega (arith, c.type_inv.work k)))

pub overflow_add-two-in-loop-i-2 : goal.overflow_add-two-in-loop-i-2
overflow_add-two-in-loop-i-2 c =
    let w = c.args.work.now in let n = c.args.words in let a = c.args.a in let b = c.args.b in let i = c.loop-i.i in
    omega (arith, c.loop-i.invariant.1.most, or-few w (a + n + i) (b + n + i) (λ k. omega (arith, c.type_inv.work k)))

pub overflow_add-four-in-loop-i-2 : goal.overflow_add-four-in-loop-i-2
overflow_add-four-in-loop-i-2 c =
    let w = c.args.work.now in let n = c.args.words in let a = c.args.a in let b = c.args.b in let i = c.loop-i.i in
    omega (arith, c.loop-i.invariant.2.most, or-few w (a + n + n + i) (b + n + n + i) (λ k. omega (arith, c.type_inv.work k)))

pub loop-i-preserved : goal.loop-i-preserved
loop-i-preserved c =
    let w = c.args.work.now in let n = c.args.words in let a = c.args.a in let b = c.args.b in let i = c.loop-i.i in (
      count_next w a b n _ i (λ k. omega (arith, c.type_inv.work k)) c.loop-i.invariant.0 (omega arith),
      count_next w (a + n) (b + n) n _ i (λ k. omega (arith, c.type_inv.work k)) c.loop-i.invariant.1 (omega arith),
      count_next w (a + n + n) (b + n + n) n _ i (λ k. omega (arith, c.type_inv.work k)) c.loop-i.invariant.2 (omega arith),
    )

pub returns : goal.returns
returns c = measured _ _ _ _ _ _ _ (count-done _ _ _ _ _ _ c.loop-i.invariant.0 (omega arith)) (count-done _ _ _ _ _ _ c.loop-i.invariant.1 (omega arith)) (count-done _ _ _ _ _ _ c.loop-i.invariant.2 (omega arith))
