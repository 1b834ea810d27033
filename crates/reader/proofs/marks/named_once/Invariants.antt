use Rattle.reader.specs.Store.{words}
use Rattle.reader.proofs.MarkLaws.{Seen}
use Rattle.reader.proofs.marks.named_once.Given as goal

abbrev pub invariant-loop-j : goal.invariant-loop-j
invariant-loop-j l = Seen (words l.s l.at l.n) l.regions l.initial.seen l.seen l.j
