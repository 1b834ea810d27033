use native.Mathlib.Omega.{arith}
use Rattle.merging.proofs.RunLaws.{turn-room, tidy-numbered, tidied-kept}
use Rattle.merging.proofs.run.tidy.Goals as goal

pub keep_marked-waiting-requires : goal.keep_marked-waiting-requires
keep_marked-waiting-requires c = (omega (arith, turn-room c.requires.some_standing), tidy-numbered c.requires.some_standing)

pub returns-then-crowded : goal.returns-then-crowded
returns-then-crowded c = tidied-kept c.requires.some_standing c.keep_marked-waiting.ensures
