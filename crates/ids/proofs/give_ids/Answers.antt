use Rattle.std.proofs.Common.{sym, ◌∙◌, arith}
use Rattle.ids.proofs.FirstSteps.{give-start, give-first, give-again, give-done}
use Rattle.ids.proofs.give_ids.Goals as goal
use Rattle.ids.proofs.give_ids.Goals.{then-f-k, else-f-k}

pub loop-k-init : goal.loop-k-init
loop-k-init c = give-start _ _ _ _ (omega arith) (omega arith) c.requires.apart

pub loop-k-preserved : goal.loop-k-preserved
loop-k-preserved c =
    elim c.if-f-k.branch [
      | then-f-k w ↦
          rw (w.work-is, w.next-is)
          (give-first _ _ _ _ (omega arith) (omega arith) c.requires.apart c.loop-k.invariant (omega arith) (sym c.wide-f.ensures ∙ w.if-f-k.true))
      | else-f-k w ↦
          rw (w.work-is, w.next-is, c.wide-f.ensures)
          (give-again _ _ _ _ (omega arith) (omega arith) c.requires.apart c.loop-k.invariant (omega arith) (λ e. w.if-f-k.false (c.wide-f.ensures ∙ e)) (c.requires.by_index c.loop-k.k (omega arith)))
    ]

pub returns : goal.returns
returns c = give-done _ _ _ _ (omega arith) (omega arith) c.requires.apart c.loop-k.invariant (omega arith)
