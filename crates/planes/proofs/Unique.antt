-- What each function promises fixes what it leaves. Assumes nothing.
use mathlib.Core.Path.{◌≡◌, sym, ◌∙◌}
use mathlib.Core.List.{List}
use Prim.Native.Nat.{ℕ}
use Rattle.laws.specs.LentRange.{seg}
use Rattle.laws.proofs.OnceLaws.{only-both, only_same, only_none}
use Rattle.planes.specs.Lent.{MeasuresJoin, JoinsPlanes, Filled}
use Rattle.planes.proofs.Meaning.{planes-once}

-- `measure_join` and `measure_words` promise the same, so their answers are equal too
pub measures-once : {w : List ℕ} {a b n r c r' c' : ℕ} → MeasuresJoin w a b n r c → MeasuresJoin w a b n r' c' → (r ≡ r') × (c ≡ c')
measures-once p q = (p.row-bits ∙ sym q.row-bits, p.columns-bits ∙ sym q.columns-bits)

pub joins-once : {a b n : ℕ} {old u v : List ℕ} → JoinsPlanes a b n old u → JoinsPlanes a b n old v → u ≡ v
joins-once p q = only_none (only_same (only-both p.only q.only) (λ k l. q.words k l ∙ sym (p.words k l)))

pub filled-once : {x m a n : ℕ} {old u v : List ℕ} → Filled x m a n old u → Filled x m a n old v → u ≡ v
filled-once {x} {m} {a} {n} {old} p q = only_none (only_same (only-both p.only q.only) (planes-once a n (seg x m old) p.is q.is))
