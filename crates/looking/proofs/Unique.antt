-- Two results that keep the promise of the last part of a look are equal. Assumes nothing.
use mathlib.Core.Path.{◌≡◌, sym, ◌∙◌}
use mathlib.Core.List.{List}
use Prim.Native.Nat.{ℕ}
use Rattle.reasons.specs.declared.reason.Reason.{Reason}
use Rattle.looking.specs.LentLook.{Looked}

module _ {axes pairs first second : ℕ} {job work : List ℕ} {r s : Reason} {w v : List ℕ} where
  pub looked-once : Looked axes job work pairs first second r w → Looked axes job work pairs first second s v → (r ≡ s) × (w ≡ v)
  looked-once p q = (p.answer ∙ sym q.answer, p.work-is ∙ sym q.work-is)
