use native.Mathlib.Omega.{arith}
use Rattle.glyphs.proofs.WriteLaws.{entries-room, entries-more, entries-done}
use Rattle.glyphs.proofs.write.write_entries.Goals as goal

pub put-requires : goal.put-requires
put-requires c = entries-room _ _ _ _ _ c.requires.size_in_bounds _ _ _ c.loop-word.invariant c.loop-word-test.true

pub overflow_add-a : goal.overflow_add-a
overflow_add-a c = omega (arith, entries-room _ _ _ _ _ c.requires.size_in_bounds _ _ _ c.loop-word.invariant c.loop-word-test.true)

pub loop-word-preserved : goal.loop-word-preserved
loop-word-preserved c = entries-more _ _ _ _ _ c.requires.size_in_bounds _ _ _ c.loop-word.invariant c.loop-word-test.true _ _ c.entry.ensures c.put.ensures

pub returns : goal.returns
returns c = entries-done _ _ _ _ _ c.requires.size_in_bounds _ _ c.loop-word.word-index c.loop-word.invariant (omega arith)
