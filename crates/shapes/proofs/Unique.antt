-- What `measure` and `join` promise fixes what they give and leave. Assumes nothing.
use mathlib.Core.Path.{◌≡◌, sym, ◌∙◌}
use mathlib.Core.List.{List}
use Prim.Native.Nat.{ℕ}
use Rattle.laws.proofs.OnceLaws.{seg-once}
use Rattle.shapes.specs.Shape.{Shape}
use Rattle.shapes.specs.Lent.{Measured, JoinedAt}

pub measured-once : {s : Shape} {r c r' c' : ℕ} → Measured s r c → Measured s r' c' → (r ≡ r') × (c ≡ c')
measured-once p q = (p.row_is ∙ sym q.row_is, p.columns-is ∙ sym q.columns-is)

pub joined_once : {a b n : ℕ} {old u v : List ℕ} → JoinedAt a b n old u → JoinedAt a b n old v → u ≡ v
joined_once p q = seg-once p.only q.only (p.is ∙ sym q.is)
