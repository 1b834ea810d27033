use Rattle.std.proofs.Common.{◌≡◌, ℕ, ◌*◌, ◌-◌, ◌/◌, ◌<◌, length, get_or}
use Rattle.sets.specs.Lent.{entries}
use Rattle.shaping.proofs.WidthSteps.{width_in}
use Rattle.shaping.proofs.shaping.widths.Given as goal

abbrev pub invariant-loop-j : goal.invariant-loop-j
invariant-loop-j l = (i : ℕ) → i < length l.shape → get_or l.shape i 0 ≡ width_in (entries (2 * l.j) (length l.pairs / 2 - l.j) l.pairs) i
