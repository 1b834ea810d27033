use Rattle.std.proofs.Common.{◌≤◌}
use Rattle.table.proofs.TableSteps.{MovedUp}
use Rattle.table.proofs.insert_at.Given as goal

abbrev pub invariant-loop-k : goal.invariant-loop-k
invariant-loop-k l = record { least : l.i ≤ l.k; moved : MovedUp l.k l.initial.words l.words }
