use Rattle.panel.proofs.CoordinateLaws.{word_low, word-high}
use native.Mathlib.Omega.{arith}
use Rattle.panel.proofs.coordinates.coordinate_word.Goals as goal

pub returns-then-x-lt32768 : goal.returns-then-x-lt32768
returns-then-x-lt32768 c = word_low c.args.x c.if-x-lt32768.true

pub returns : goal.returns
returns c = word-high c.args.x c.requires (omega (arith, c.if-x-lt32768.false))
