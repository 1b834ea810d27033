use Rattle.showing.proofs.EndLaws.{Counted}
use Rattle.showing.proofs.ends.end_at.Given as goal

abbrev pub invariant-loop-i : goal.invariant-loop-i
invariant-loop-i l = Counted l.job l.j l.n l.i l.before
