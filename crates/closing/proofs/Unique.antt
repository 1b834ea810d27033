-- Two results that keep the promise of the last part of a build are equal, and so for a forecast. Assumes nothing.
use mathlib.Core.Path.{◌≡◌, sym, ◌∙◌}
use mathlib.Core.List.{List}
use Prim.Native.Nat.{ℕ}
use Rattle.finishing.specs.Answers.{Built}
use Rattle.finishing.specs.Buffers.{Buffers}
use Rattle.panel.specs.declared.Profile.{Profile}
use Rattle.closing.specs.LentClosed.{Closed, Foreseen}

module _ {h : Profile} {axes mode pairs : ℕ} {job work : List ℕ} {r s : Built} {w v : List ℕ} where
  pub closed-once : {old a b : Buffers} → Closed h axes mode job work pairs r old a w → Closed h axes mode job work pairs s old b v → (r ≡ s) × (a ≡ b) × (w ≡ v)
  closed-once p q = (p.built.answer ∙ sym q.built.answer, p.built.left ∙ sym q.built.left, p.work-is ∙ sym q.work-is)

module _ {axes mode pairs : ℕ} {job work : List ℕ} {r s : Built} {w v : List ℕ} where
  pub foreseen-once : Foreseen axes mode job work pairs r w → Foreseen axes mode job work pairs s v → (r ≡ s) × (w ≡ v)
  foreseen-once p q = (p.answer ∙ sym q.answer, p.work-is ∙ sym q.work-is)
