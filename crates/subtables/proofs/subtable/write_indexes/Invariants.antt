use Prim.Native.Nat.{◌+◌, ◌*◌}
use lib.ListN.{drop}
use Rattle.rows.specs.Lent.{index_bytes, number_in}
use Rattle.rows.proofs.PutLaws.{Putting}
use Rattle.subtables.proofs.subtable.write_indexes.Given as goal

abbrev pub invariant-loop-j : goal.invariant-loop-j
invariant-loop-j l = Putting l.at (index_bytes (number_in l.numbers) l.cols) l.initial.out l.out (l.at + 2 * l.j) (index_bytes (number_in l.numbers) (drop l.j l.cols))
