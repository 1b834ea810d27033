use Rattle.job_scan.proofs.WalkLaws.{Reading}
use Rattle.job_scan.proofs.axes.axes_end.Given as goal

abbrev pub invariant-loop-i : goal.invariant-loop-i
invariant-loop-i l = Reading l.axes l.job l.records l.i
