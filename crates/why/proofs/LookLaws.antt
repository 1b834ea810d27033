-- A look from its parts: with the pair records, the promise of the call. Assumes nothing.
use mathlib.Core.Path.{◌≡◌, refl}
use Rattle.std.specs.Prelude.{Ok}
use Rattle.said.specs.Job.{Outcome}
use Rattle.merging.specs.declared.optimizing.Merged.{Merged}
use Rattle.opening.specs.declared.opening.Stage.{Stage}
use Rattle.opening.specs.LentOpened.{Read}
use Rattle.arranging.specs.LentArranged.{Joined}
use mathlib.Core.List.{List}
use Prim.Native.Nat.{ℕ}
use lib.ListN.{length}
use Rattle.pairs.specs.declared.Pair.{Pair}
use Rattle.call.specs.Lending.{lending, no_buffers}
use Rattle.call.specs.Build.{pairs_left}
use Rattle.reasons.specs.declared.reason.Reason.{Reason}
use Rattle.looking.specs.LentLook.{LookFit, Looked}
use Rattle.why.specs.Promised.{Looks}

pub looks : (axes : ℕ) (job work : List ℕ) (pairs : List Pair) (first second : ℕ) (r : Reason) (work' : List ℕ) (pairs' : List Pair)
    → Looked axes job work (length pairs) first second r work' → pairs' ≡ pairs_left axes 0 job (length work) pairs
    → Looks (lending axes 0 job work pairs no_buffers) first second r work' pairs'
looks axes job work pairs first second r work' pairs' c e = record { answer = c.answer; work-is = c.work-is; pairs_is = e }

-- what the last part asks
pub look-fit : (axes : ℕ) (job : List ℕ) (o : Outcome) {s : Stage} {m : Merged} {mid w : List ℕ} → Read axes 0 job o (Ok s) mid → Joined s m mid w → LookFit s m w
look-fit axes job o {s} {m} {mid} {w} r j = record { job = job; fits = record { axes = axes; mode = 0; outcome = o; mid = mid; read = r; joined = j }; shared = refl }
