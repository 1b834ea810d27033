use mathlib.Core.Path.{◌≡◌}
use lib.ListN.{length}
use Rattle.stores.specs.Stores.{Marked}
use Rattle.stores.proofs.WholeLaws.{SlotsSo}
use Rattle.stores.proofs.slots_ok.Given as goal

abbrev pub invariant-loop-o : goal.invariant-loop-o
invariant-loop-o l = (SlotsSo l.s l.n l.o) × (length l.seen ≡ length l.initial.seen) × (Marked l.s l.seen)
