use Prim.Native.Nat.{◌*◌}
use Rattle.planes.proofs.JoinLaws.{Oring}
use Rattle.planes.proofs.joining.join_into.Given as goal

abbrev pub invariant-loop-i : goal.invariant-loop-i
invariant-loop-i l = Oring l.a l.b (3 * l.words) l.initial.work l.work l.i
