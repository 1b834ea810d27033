use mathlib.Core.Path.{◌≡◌}
use lib.ListN.{drop}
use Rattle.glyphs.specs.Packing.{ored, together}
use Rattle.glyphs.proofs.width.together.Given as goal

abbrev pub invariant-loop-word : goal.invariant-loop-word
invariant-loop-word l = ored l.all (drop l.word-index l.words) ≡ together l.words
