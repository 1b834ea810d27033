use Rattle.opening.proofs.StartLaws.{starts-begin, start-low, starts_more, starts-done}
use mathlib.Core.Path.{refl}
use native.Mathlib.Omega.{arith}
use Rattle.opening.proofs.opening.place_starts.Goals as goal

pub loop-i-init : goal.loop-i-init
loop-i-init c = starts-begin c.requires.n_in_bounds

pub coords_start-requires : goal.coords_start-requires
coords_start-requires c = (c.requires.axes_le_most_axes, start-low c.requires.n_in_bounds c.loop-i.invariant c.requires.by_index (omega arith) _ refl)

pub loop-i-preserved : goal.loop-i-preserved
loop-i-preserved c = starts_more c.requires.n_in_bounds c.loop-i.invariant (omega arith) _ refl _ c.coords_start.ensures.value

pub returns : goal.returns
returns c = starts-done c.requires.n_in_bounds c.loop-i.invariant (omega arith)
