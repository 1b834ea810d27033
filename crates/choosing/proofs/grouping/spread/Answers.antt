use Rattle.std.proofs.Common.{sym, ◌∙◌, refl, arith}
use Rattle.choosing.proofs.GroupLaws.{grouping-new, grouping-more, count_low, tables-low, place-fits, opens_not}
use Rattle.choosing.proofs.grouping.spread.Goals as goal
use Rattle.choosing.proofs.grouping.spread.Goals.{then-opens_table, else-opens_table}

pub overflow_mul-work : goal.overflow_mul-work
overflow_mul-work c = omega (arith, tables-low _ _ _ (omega arith) (omega arith) c.requires.2 c.requires.3 _ _ _ c.loop-j.invariant (omega arith) (sym c.opens_table.ensures ∙ c.if-opens_table.true))

pub overflow_cast-work : goal.overflow_cast-work
overflow_cast-work c = omega (arith, tables-low _ _ _ (omega arith) (omega arith) c.requires.2 c.requires.3 _ _ _ c.loop-j.invariant (omega arith) (sym c.opens_table.ensures ∙ c.if-opens_table.true))

pub overflow_add-work-else-opens_table-2 : goal.overflow_add-work-else-opens_table-2
overflow_add-work-else-opens_table-2 c = omega (arith, place-fits _ _ _ (omega arith) (omega arith) c.requires.2 c.requires.3 _ _ _ c.loop-j.invariant (omega arith) (opens_not _ _ (sym c.opens_table.ensures ∙ c.if-opens_table.false)).0)

pub overflow_cast-work-in-loop-j : goal.overflow_cast-work-in-loop-j
overflow_cast-work-in-loop-j c = omega (arith, count_low _ _ _ (omega arith) (omega arith) c.requires.2 c.requires.3 _ _ _ c.loop-j.invariant (omega arith))

pub loop-j-preserved : goal.loop-j-preserved
loop-j-preserved c =
    let r = c.requires in
    let m = c.loop-j.invariant in
    elim c.if-opens_table.branch [
      | then-opens_table w ↦
          rw (w.work-is, w.g-is) (grouping-new _ _ _ (omega arith) (omega arith) r.2 r.3 _ _ _ m (omega arith) (sym c.opens_table.ensures ∙ w.if-opens_table.true) _ refl)
      | else-opens_table w ↦
          rw (w.work-is, w.g-is) (grouping-more _ _ _ (omega arith) (omega arith) r.2 r.3 _ _ _ m (omega arith) (sym c.opens_table.ensures ∙ w.if-opens_table.false) _ refl)
    ]
