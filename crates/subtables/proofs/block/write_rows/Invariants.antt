use Prim.Native.Nat.{◌+◌, ◌-◌, ◌≤◌}
use Rattle.laws.specs.LentRange.{seg}
use Rattle.rows.specs.Lent.{rows_bytes, set_at}
use Rattle.rows.proofs.PutLaws.{Putting}
use Rattle.subtables.proofs.block.write_rows.Given as goal

abbrev pub invariant-loop-i : goal.invariant-loop-i
invariant-loop-i l =
    (l.i ≤ l.sets.list.count) × Putting l.at (rows_bytes l.columns.word l.columns.regions.now (set_at l.sets.list.index l.sets.work.now) (seg l.sets.list.ids l.sets.list.count l.sets.work.now)) l.initial.out l.out l.a
    (rows_bytes l.columns.word l.columns.regions.now (set_at l.sets.list.index l.sets.work.now) (seg (l.sets.list.ids + l.i) (l.sets.list.count - l.i) l.sets.work.now))

abbrev pub decreases-loop-i : goal.decreases-loop-i
decreases-loop-i l = l.sets.list.count - l.i
