use Prim.Native.Nat.{◌+◌}
use Rattle.planes.specs.Lent.{Counting}
use Rattle.planes.proofs.joining.measure_words.Given as goal

abbrev pub invariant-loop-i : goal.invariant-loop-i
invariant-loop-i l = Counting l.work l.a l.b l.words l.one l.i × Counting l.work (l.a + l.words) (l.b + l.words) l.words l.two l.i × Counting l.work (l.a + l.words + l.words) (l.b + l.words + l.words) l.words l.four l.i
