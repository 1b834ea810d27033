use Prim.Native.Nat.{◌≤◌, min}
use mathlib.Core.Path.{◌≡◌}
use lib.ListN.{length}
use Rattle.glyphs.specs.Packing.{count_of, kept_of}
use Rattle.glyphs.proofs.kept.kept.Given as goal

abbrev pub invariant-loop-i : goal.invariant-loop-i
invariant-loop-i l = (min (length l.words) 1 ≤ l.i) × (l.i ≤ length l.words) × (kept_of l.words l.i ≡ count_of l.words)
