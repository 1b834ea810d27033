use mathlib.Core.Path.{◌≡◌}
use Prim.Native.Nat.{◌-◌}
use Rattle.said.specs.Records.{record_at}
use Rattle.panel.specs.Panelled.{first_of}
use Rattle.panel.proofs.records_of.check_all.Given as goal

abbrev pub invariant-loop-i : goal.invariant-loop-i
invariant-loop-i l = first_of (record_at l.job l.i) (l.limit - l.i) l.i ≡ first_of l.job l.limit 0
