use native.Mathlib.Omega.{arith}
use mathlib.Core.Path.{◌≡◌}
use Rattle.reasons.proofs.RowLaws.{set-in, walk_here, walk_more, walk-done}
use Rattle.reasons.proofs.id_rows.place_among.Goals as goal

pub overflow_add-ids : goal.overflow_add-ids
overflow_add-ids c = omega (arith, set-in c.requires c.loop-q.q c.loop-q-test.true)

pub offset_bounds-work-ids : goal.offset_bounds-work-ids
offset_bounds-work-ids c = omega (arith, set-in c.requires c.loop-q.q c.loop-q-test.true)

pub bounds-work-ids : goal.bounds-work-ids
bounds-work-ids c = omega (arith, set-in c.requires c.loop-q.q c.loop-q-test.true)

pub returns-then-work-ids : goal.returns-then-work-ids
returns-then-work-ids c = walk_here c.requires c.loop-q.invariant c.loop-q-test.true c.if-work-ids.true

pub loop-q-preserved : goal.loop-q-preserved
loop-q-preserved c = walk_more c.requires c.loop-q.invariant c.loop-q-test.true c.if-work-ids.false

pub returns : goal.returns
returns c = let e : c.loop-q.q ≡ c.args.n = omega arith in rw e at (walk-done c.requires c.loop-q.invariant (omega arith))
