use lib.ListN.{drop}
use Rattle.rows.proofs.PutLaws.{Putting}
use Rattle.glyphs.specs.Packing.{entries_of}
use Rattle.glyphs.proofs.write.write_entries.Given as goal

abbrev pub invariant-loop-word : goal.invariant-loop-word
invariant-loop-word l = Putting l.at (entries_of l.size l.bits l.words) l.initial.out l.out l.a (entries_of l.size l.bits (drop l.word-index l.words))
