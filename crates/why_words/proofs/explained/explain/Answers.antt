use mathlib.Core.Path.{ap}
use Rattle.finishing.specs.Answers.{built}
use Rattle.why_words.proofs.WhyTells.{bytes_fit}
use Rattle.why_words.proofs.explained.explain.Goals as goal

pub check_asked-requires : goal.check_asked-requires
check_asked-requires c = let a = c.args in bytes_fit (built a.answer) a.out.now c.in_ok-done.done (ap built c.in_ok-done.was) c.requires
