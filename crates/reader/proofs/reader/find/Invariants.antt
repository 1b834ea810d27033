use Prim.Native.Nat.{◌≤◌, ◌+◌, ◌*◌, ◌-◌}
use mathlib.Core.Path.{◌≡◌}
use Rattle.reader.specs.Store.{find, words}
use Rattle.reader.proofs.reader.find.Given as goal

abbrev pub invariant-loop-j : goal.invariant-loop-j
invariant-loop-j l = (l.j ≤ l.n) × (find l.x 0 (words l.s l.at l.n) ≡ find l.x l.j (words l.s (l.at + 2 * l.j) (l.n - l.j)))
