-- What `insert_at` and `find_shape` promise fixes what they leave and answer. Assumes nothing.
use mathlib.Core.Path.{◌≡◌, sym, ap, ◌∙◌}
use mathlib.Core.List.{List}
use mathlib.Core.Logic.{⊎_elim}
use Prim.Native.Nat.{ℕ, ◌+◌, ◌<◌}
use native.Mathlib.Omega.{arith}
use lib.ListN.{length, get_or}
use lib.Seq.{ext_get_or}
use Rattle.laws.proofs.Cases.{lt-or-ge, same_or_not}
use Rattle.laws.proofs.OnceLaws.{only-both, only_same, only_none}
use Rattle.std.specs.declared.cmp.Ordering.{Ordering}
use Rattle.std.specs.declared.cmp.Ordering.TheVariants.{Less, Equal, Greater}
use Rattle.shapes.specs.Shape.{Shape}
use Rattle.shapes.specs.Order.{order}
use Rattle.shapes.proofs.OrderLaws.{order-self}
use Rattle.table.specs.declared.Shapes.{Shapes}
use Rattle.std.specs.Prelude.{Ok, Err}
use Rattle.std.specs.declared.result.Result.{Result}
use Rattle.table.specs.LentTable.{Searchable, FoundAt, FoundGap, FoundIn, InsertedIn, InsertedAt}

pub inserted_in-once : {i w : ℕ} {old u v : List ℕ} → InsertedIn i w old u → InsertedIn i w old v → u ≡ v
inserted_in-once {i} {w} {old} {u} {v} p q = ext_get_or 0 u v (p.long ∙ sym q.long) same
  where
    same : (k : ℕ) → k < length u → get_or u k 0 ≡ get_or v k 0
    same k l = ⊎_elim
        (λ (b : k < i). p.front k b ∙ sym (q.front k b))
        (λ b. ⊎_elim
        (λ (e : k ≡ i). rw e (p.here ∙ sym q.here))
        (λ d. p.back k (omega arith) l ∙ sym (q.back k (omega arith) (omega (arith, p.long, q.long))))
        (same_or_not k i))
        (lt-or-ge k i)

-- of a part of the words
pub inserted-once : {at n i w : ℕ} {old u v : List ℕ} → InsertedAt at n i w old u → InsertedAt at n i w old v → u ≡ v
inserted-once {at} {n} {i} {w} {old} {u} {v} p q = only_none (only_same (only-both p.only q.only) same)
  where
    same : (k : ℕ) → k < n + 1 → get_or v (at + k) 0 ≡ get_or u (at + k) 0
    same k l = ⊎_elim
        (λ (b : k < i). q.front k b ∙ sym (p.front k b))
        (λ b. ⊎_elim
        (λ (e : k ≡ i). rw e (q.here ∙ sym p.here))
        (λ d. q.back k (omega arith) (omega arith) ∙ sym (p.back k (omega arith) (omega arith)))
        (same_or_not k i))
        (lt-or-ge k i)

-- ---- the shapes of a table are in their order, so a shape is found at one place alone, or is missing at one

module _ {t : Shapes} {n s : ℕ} {w : List ℕ} (h : Searchable t n s w) where
  -- equal shapes are neither less nor greater
  same_not : {o : Ordering} (x y : Shape) → x ≡ y → order x y ≡ o → Equal ≡ o
  same_not x y e f = sym (order-self x) ∙ ap (order x) e ∙ f

  less : {A : Type 0} → ◌≡◌ {A = Ordering} Equal Less → A
  less e = let z : ◌≡◌ {A = ℕ} 0 1 = cc in absurd (omega arith)

  greater : {A : Type 0} → ◌≡◌ {A = Ordering} Equal Greater → A
  greater e = let z : ◌≡◌ {A = ℕ} 0 1 = cc in absurd (omega arith)

  both : {A : Type 0} → ◌≡◌ {A = Ordering} Less Greater → A
  both e = let z : ◌≡◌ {A = ℕ} 0 1 = cc in absurd (omega arith)

  one_place : (i j : ℕ) → i < j → FoundAt t n s w i → FoundAt t n s w j → ⊥
  one_place i j l p q = less (same_not _ _ (sym p.same ∙ q.same) (h.ordered i j l q.below))

  here-not-missing : (i j : ℕ) → FoundAt t n s w i → FoundGap t n s w j → ⊥
  here-not-missing i j p q = ⊎_elim
      (λ (l : i < j). greater (same_not _ _ p.same (q.behind i l)))
      (λ l. less (same_not _ _ p.same (q.ahead i l p.below)))
      (lt-or-ge i j)

  one-gap : (i j : ℕ) → i < j → FoundGap t n s w i → FoundGap t n s w j → ⊥
  one-gap i j l p q = both (sym (p.ahead i (omega arith) (omega (arith, q.most))) ∙ q.behind i l)

  pub found-once : (r r' : Result ℕ ℕ) → FoundIn t n s w r → FoundIn t n s w r' → r ≡ r'
  found-once (Ok i) (Ok j) p q = ⊎_elim
      (λ (e : i ≡ j). ap (λ (x : ℕ). Ok x) e)
      (λ d. ⊎_elim (λ (l : i < j). absurd (one_place i j l p q)) (λ l. absurd (one_place j i (omega arith) q p)) (lt-or-ge i j))
      (same_or_not i j)
  found-once (Ok i) (Err j) p q = absurd (here-not-missing i j p q)
  found-once (Err i) (Ok j) p q = absurd (here-not-missing j i q p)
  found-once (Err i) (Err j) p q = ⊎_elim
      (λ (e : i ≡ j). ap (λ (x : ℕ). Err x) e)
      (λ d. ⊎_elim (λ (l : i < j). absurd (one-gap i j l p q)) (λ l. absurd (one-gap j i (omega arith) q p)) (lt-or-ge i j))
      (same_or_not i j)
