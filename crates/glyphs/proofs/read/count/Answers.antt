use mathlib.Core.Path.{◌∙◌}
use Rattle.glyphs.proofs.ReadLaws.{start-one}
use native.Mathlib.Omega.{arith}
use Rattle.glyphs.proofs.read.count.Goals as goal

pub be-requires-2 : goal.be-requires-2
be-requires-2 c = record { k_bound = omega arith; k_in_bounds = omega (arith, c.requires.s_in_bounds, start-one _ (λ e. c.if-be-eq0.false (c.be.ensures.is ∙ e))) }
