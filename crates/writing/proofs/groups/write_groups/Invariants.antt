use Rattle.writing.proofs.LaidLaws.{Grouping}
use Rattle.writing.proofs.groups.write_groups.Given as goal

abbrev pub invariant-loop-g : goal.invariant-loop-g
invariant-loop-g l = Grouping l.t.regions l.t.groups l.t.count l.t.index l.scratch l.at l.initial.work l.initial.out l.work l.out l.a l.g
