use Rattle.std.proofs.Common.{sym, ◌∙◌, arith}
use Rattle.choosing.proofs.OnceLaws.{once-new, once-old, once-done}
use Rattle.choosing.proofs.once.distinct.Goals as goal
use Rattle.choosing.proofs.once.distinct.Goals.{then-new_word, else-new_word}

pub loop-i-preserved : goal.loop-i-preserved
loop-i-preserved c =
    let m = c.loop-i.invariant in
    elim c.if-new_word.branch [
      | then-new_word w ↦ rw (w.work-is, w.k-is) (once-new (omega arith) c.requires.1 m (omega arith) (sym c.new_word.ensures ∙ w.if-new_word.true))
      | else-new_word w ↦ rw (w.work-is, w.k-is) (once-old (omega arith) c.requires.1 m (omega arith) (sym c.new_word.ensures ∙ w.if-new_word.false))
    ]

pub returns : goal.returns
returns c = once-done c.loop-i.invariant (omega arith)
