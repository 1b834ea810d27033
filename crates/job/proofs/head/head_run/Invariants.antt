use Rattle.job.proofs.HeadLaws.{Heading}
use Rattle.job.proofs.head.head_run.Given as goal

abbrev pub invariant-loop-i : goal.invariant-loop-i
invariant-loop-i l = Heading l.job l.records l.i
