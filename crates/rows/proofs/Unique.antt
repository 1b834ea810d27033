-- What is promised of bytes put, of columns and of their places fixes what is left and answered. Assumes nothing.
use mathlib.Core.Path.{◌≡◌, sym, ◌∙◌}
use mathlib.Core.List.{List}
use Prim.Native.Nat.{ℕ}
use native.Mathlib.Omega.{arith}
use lib.ListN.{length}
use lib.Seq.{ext_get_or}
use Rattle.rows.specs.Lent.{FormedIn, Placed, Put}

pub put-once : {at : ℕ} {bs old u v : List ℕ} {r s : ℕ} → Put at bs old u r → Put at bs old v s → (r ≡ s) × (u ≡ v)
put-once p q = (p.end ∙ sym q.end, p.is ∙ sym q.is)

pub formed-once : {shape regions cols : ℕ} {old u v : List ℕ} {word count word' count' : ℕ}
    → FormedIn shape regions cols old u word count → FormedIn shape regions cols old v word' count' → (word ≡ word') × (count ≡ count') × (u ≡ v)
formed-once p q = (p.word-is ∙ sym q.word-is, p.count-is ∙ sym q.count-is, p.put.is ∙ sym q.put.is)

-- a slice that is lent keeps its length
pub placed-once : {cols u v : List ℕ} → length u ≡ length v → Placed cols u → Placed cols v → u ≡ v
placed-once {cols} {u} {v} e p q = ext_get_or 0 u v e (λ k l. p.at k l ∙ sym (q.at k (omega arith)))
