use mathlib.Core.Path.{ap, ◌∙◌}
use mathlib.Core.Path.{refl}
use Rattle.laws.proofs.BytesLaws.{pow-top}
use Rattle.laws.specs.Signed.{signed}
use Rattle.giving.proofs.PassLaws.{span_is, cell-low, cell-high}
use native.Mathlib.Omega.{arith}
use Rattle.giving.proofs.columns.cell.Goals as goal

pub overflow_mul-x : goal.overflow_mul-x
overflow_mul-x c = omega (arith, c.be-x.ensures.below, pow-top 4 c.requires.0)

pub returns-then-x-m : goal.returns-then-x-m
returns-then-x-m c = cell-low c.args.k c.be-x.result _ (omega (arith, (span_is c.args.k c.requires.0))) refl ∙ ap (signed c.args.k) c.be-x.ensures.is

pub returns : goal.returns
returns c = cell-high c.args.k c.be-x.result _ (omega (arith, (span_is c.args.k c.requires.0))) c.be-x.ensures.below (omega (arith, c.be-x.ensures.below, pow-top 4 c.requires.0, (span_is c.args.k c.requires.0))) ∙ ap (signed c.args.k) c.be-x.ensures.is
