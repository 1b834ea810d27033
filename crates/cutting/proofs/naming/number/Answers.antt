use native.Mathlib.Omega.{arith}
use Rattle.std.proofs.lemmas.List.{set-get_or}
use Rattle.cutting.proofs.NameLaws.{numbers-start, numbers-low, numbers-in, numbers-out, numbers-done}
use Rattle.cutting.proofs.naming.number.Goals as goal
use Rattle.cutting.proofs.naming.number.Goals.{then-mark-ne0, else-mark-ne0}

pub loop-mark-init : goal.loop-mark-init
loop-mark-init c = numbers-start _ _ _ (omega arith) _ (omega arith)

pub overflow_add-k : goal.overflow_add-k
overflow_add-k c = omega (arith, numbers-low _ _ _ (omega arith) _ _ _ c.loop-mark.invariant (omega arith))

pub loop-mark-preserved : goal.loop-mark-preserved
loop-mark-preserved c = elim c.if-mark-ne0.branch [
  | then-mark-ne0 w ↦ rw (w.mark-items-is, w.k-is) (numbers-in _ _ _ (omega arith) _ _ _ c.loop-mark.invariant (omega arith) w.if-mark-ne0.true)
  | else-mark-ne0 w ↦ rw (w.mark-items-is, set-get_or c.loop-mark.mark-items c.loop-mark.mark-index 0, w.k-is) (numbers-out _ _ _ (omega arith) _ _ _ c.loop-mark.invariant (omega arith) w.if-mark-ne0.false)
]

pub returns : goal.returns
returns c = numbers-done _ _ _ (omega arith) _ _ _ c.loop-mark.invariant (omega arith)
