use Rattle.std.proofs.Common.{◌-◌, sym, ◌∙◌, arith}
use Rattle.ids.proofs.FirstSteps.{first_more, again-some, again-more, block_to, new-below, new-stored}
use Rattle.ids.proofs.firsts_block.Goals as goal
use Rattle.ids.proofs.firsts_block.Goals.{then-begins, else-begins}

pub begins-requires-clause-stored : goal.begins-requires-clause-stored
begins-requires-clause-stored c = let p = c.requires in new-stored p.fit (c.loop-i.invariant p) (c.loop-i.i - 1) (omega (arith, p.inside))

pub begins-requires-clause-stored_2 : goal.begins-requires-clause-stored_2
begins-requires-clause-stored_2 c = let p = c.requires in new-stored p.fit (c.loop-i.invariant p) c.loop-i.i (omega (arith, p.inside))

pub bounds-work-first : goal.bounds-work-first
bounds-work-first c =
    let p = c.requires in
    let g = c.loop-i.invariant p in
    omega (arith, g.only.long, p.so_far.only.long, new-below p.fit g c.loop-i.i (omega (arith, p.inside)))

pub overflow_sub-i : goal.overflow_sub-i
overflow_sub-i c = let p = c.requires in again-some p.fit (c.loop-i.invariant p) (omega (arith, p.inside)) (sym c.begins.ensures ∙ c.if-begins.false)

pub bounds-work-first-else-begins : goal.bounds-work-first-else-begins
bounds-work-first-else-begins c =
    let p = c.requires in
    let g = c.loop-i.invariant p in
    omega (arith, g.only.long, p.so_far.only.long, new-below p.fit g (c.loop-i.i - 1) (omega (arith, p.inside)))

pub bounds-work-first-else-begins-2 : goal.bounds-work-first-else-begins-2
bounds-work-first-else-begins-2 c =
    let p = c.requires in
    let g = c.loop-i.invariant p in
    omega (arith, g.only.long, p.so_far.only.long, new-below p.fit g c.loop-i.i (omega (arith, p.inside)))

pub loop-i-preserved : goal.loop-i-preserved
loop-i-preserved c = λ f.
    elim c.if-begins.branch [
      | then-begins w ↦
          rw (w.work-is, c.wide-x.ensures) (first_more f.fit (c.loop-i.invariant f) (omega (arith, f.inside)) (sym c.begins.ensures ∙ w.if-begins.true))
      | else-begins w ↦
          rw (w.work-is, c.wide-x.ensures, w.wide-y.ensures) (again-more f.fit (c.loop-i.invariant f) (omega (arith, f.inside)) (sym c.begins.ensures ∙ w.if-begins.false))
    ]

pub returns : goal.returns
returns c = λ f. block_to (c.loop-i.invariant f) (omega (arith, f.ahead))
