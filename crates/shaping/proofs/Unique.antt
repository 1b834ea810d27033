-- What the shapes' functions promise fixes what they leave; of `cover` all but its scratch. Assumes nothing.
use mathlib.Core.Path.{◌≡◌, sym, ◌∙◌}
use mathlib.Core.List.{List, [], ◌∷◌}
use Prim.Native.Nat.{ℕ}
use Rattle.laws.specs.LentRange.{Only}
use Rattle.laws.proofs.OnceLaws.{only-both, only_same, words_same, seg-once}
use Rattle.shaping.specs.Lent.{ShapedAt, ShapedFrom, CoverAt}

pub shaped-once : {index x at regions : ℕ} {old u v : List ℕ} → ShapedAt index x at regions old u → ShapedAt index x at regions old v → u ≡ v
shaped-once p q = seg-once p.only q.only (p.is ∙ sym q.is)

pub shaped-from-once : {from m at regions : ℕ} {old u v : List ℕ} → ShapedFrom from m at regions old u → ShapedFrom from m at regions old v → u ≡ v
shaped-from-once p q = seg-once p.only q.only (p.is ∙ sym q.is)

-- two results differ in the words from `tmp` on alone
pub cover-once : {index n at tmp regions : ℕ} {old u v : List ℕ} → CoverAt index n at tmp regions old u → CoverAt index n at tmp regions old v → Only ((tmp, regions) ∷ []) u v
cover-once {index} {n} {at} {tmp} {regions} {old} {u} {v} p q = only_same (only-both p.only q.only) (words_same at regions u v (q.is ∙ sym p.is))
