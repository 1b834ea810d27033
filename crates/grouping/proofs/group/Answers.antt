use Rattle.grouping.proofs.GroupSteps.{group-start, set-fit, group-first, group-full, again-below, group-again, group-done}
use native.Mathlib.Omega.{arith}
use Rattle.grouping.proofs.group.Goals as goal
use Rattle.grouping.proofs.group.Goals.{then-f-k+in_ok-groups, else-f-k}

pub loop-k-init : goal.loop-k-init
loop-k-init c = group-start c.requires

pub add_set-requires : goal.add_set-requires
add_set-requires c = set-fit c.requires c.loop-k.invariant (omega arith)

pub returns-in_err-groups : goal.returns-in_err-groups
returns-in_err-groups c = rw c.from_residual.ensures (group-full c.requires c.loop-k.invariant (omega arith) c.if-f-k.true c.in_err-groups.ensures)

pub bounds-work-kinds : goal.bounds-work-kinds
bounds-work-kinds c = omega (arith, again-below c.requires c.loop-k.invariant (omega arith) c.if-f-k.false)

pub loop-k-preserved : goal.loop-k-preserved
loop-k-preserved c =
    elim c.if-f-k.branch [
      | then-f-k+in_ok-groups w ↦ rw (w.work-is, w.groups-is) (group-first c.requires c.loop-k.invariant (omega arith) w.if-f-k.true w.in_ok-groups.ensures)
      | else-f-k w ↦ rw (w.work-is, w.groups-is) (group-again c.requires c.loop-k.invariant (omega arith) w.if-f-k.false)
    ]

pub returns : goal.returns
returns c = group-done c.requires c.loop-k.invariant (omega arith)
