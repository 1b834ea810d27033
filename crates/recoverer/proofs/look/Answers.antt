use mathlib.Core.Bool.{not}
use native.Mathlib.Omega.{arith}
use mathlib.Core.Path.{ap}
use Rattle.recoverer.proofs.Steps.{look-header}
use Rattle.recoverer.proofs.look.Goals as goal

pub all_once-requires : goal.all_once-requires
all_once-requires c = (look-header _ _ c.whole_ok.ensures (ap not c.if-not-whole_ok.false), omega (arith, c.requires, c.fill.ensures.len, c.whole_ok.auto.seen))
