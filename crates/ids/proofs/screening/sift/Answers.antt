use Rattle.std.proofs.Common.{arith}
use native.Mathlib.Nat.{mod-lt}
use Rattle.ids.proofs.ScreenLaws.{screen-start, stored, seen_stored, twin-seen, screen-new, screen-twin, screen-done}
use Rattle.ids.proofs.screening.sift.Goals as goal
use Rattle.ids.proofs.screening.sift.Goals.{in-Some, in_default}

pub loop-x-init : goal.loop-x-init
loop-x-init c = screen-start c.requires.ids_fit c.requires.by_index

pub hash-h-requires : goal.hash-h-requires
hash-h-requires c = stored c.requires.ids_fit c.loop-x.invariant c.loop-x.x (omega arith)

pub twin_of-requires-clause-stored : goal.twin_of-requires-clause-stored
twin_of-requires-clause-stored c = stored c.requires.ids_fit c.loop-x.invariant c.loop-x.x (omega arith)

pub twin_of-requires-clause-stored_2 : goal.twin_of-requires-clause-stored_2
twin_of-requires-clause-stored_2 c =
    seen_stored c.requires.ids_fit c.loop-x.invariant _ (mod-lt _ (omega arith)) (omega arith) _ c.wide.ensures _ c.seen_of-before.ensures

pub loop-x-preserved : goal.loop-x-preserved
loop-x-preserved c =
    let r = c.requires.ids_fit in
    let g = c.loop-x.invariant in
    elim c.match-twin_of.branch [
      | in-Some w ↦
          (let e = w.in-Some.ensures in
          rw (w.work-is, w.m-is)
          (screen-twin r g (omega arith) _ (mod-lt _ (omega arith)) _ _ c.wide.ensures (twin-seen _ _ _ _ e.0 c.seen_of-before.ensures) e.1))
      | in_default w ↦ rw (w.work-is, w.m-is) (screen-new r g (omega arith) _ (mod-lt _ (omega arith)) _ w.word_of.ensures)
    ]

pub returns : goal.returns
returns c = screen-done c.requires.ids_fit c.loop-x.invariant (omega arith)
