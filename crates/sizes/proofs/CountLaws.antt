-- Counting: how often a number stands among the origins, the sets of a group. Assumes nothing.
use mathlib.Core.Path.{◌≡◌, refl, sym, ap, ◌∙◌}
use mathlib.Core.Bool.{◌||◌}
use mathlib.Core.List.{List, [], ◌∷◌}
use mathlib.Core.Logic.{⊎_elim}
use Prim.Native.Nat.{ℕ, zero, suc, ◌+◌, ◌≤◌, ◌<◌}
use native.Mathlib.Omega.{arith}
use lib.ListN.{length}
use lib.Dec.{eqb}
use borrow.Author.Tests.{eq-eqb}
use Rattle.laws.specs.Pick.{one_if}
use Rattle.laws.specs.Every.{All, EachTwo}
use Rattle.laws.specs.Bag.{weigh}
use Rattle.laws.proofs.Cases.{Which, which, lt-or-ge}
use Rattle.laws.proofs.Cases.Which.{holds, fails}
use Rattle.laws.proofs.EveryLaws.{all-imp, all-get_or}
use Rattle.laws.proofs.BagLaws.{weigh-none, weigh-both}
use Rattle.shapes.specs.Shape.{Shape}
use Rattle.shapes.specs.Order.{order}
use Rattle.shapes.specs.Group.{Group}
use Rattle.shapes.proofs.OrderLaws.{order-equal}
use Rattle.groups.proofs.GroupLaws.{Said, said, Long}
use Rattle.groups.proofs.GroupLaws.Said.{less, equal, greater}
use Rattle.rule.specs.Model.{Living}
use Rattle.rule.proofs.Origins.{times, homes}
use Rattle.encoder.specs.Packed.{is_among}
use Rattle.sizes.specs.Sizes.{group_at}
use Rattle.sizes.proofs.Shares.{share, is_shape, share-self}

-- how often the numbers of some elements stand in a list: number by number
pub times-each : {A : Type 0} (f : A → ℕ) (l : List A) (o : List ℕ) → weigh (λ x. times (f x) o) l ≡ weigh (λ i. weigh (λ x. one_if (eqb (f x) i)) l) o
unfolding times weigh
times-each f l [] = weigh-none l
times-each f l (i ∷ o) = weigh-both (λ x. one_if (eqb (f x) i)) (λ x. weigh (λ j. one_if (eqb (f x) j)) o) l ∙ ap (◌+◌ (weigh (λ x. one_if (eqb (f x) i)) l)) (times-each f l o)

-- ---- origins

-- a number that stands in a list at most once
pub among-times : (m : ℕ) (o : List ℕ) → times m o ≤ 1 → one_if (is_among m o) ≡ times m o
unfolding is_among times weigh
among-times m [] h = refl
among-times m (j ∷ o) h = go (λ k. among-times m o k) (which (eqb m j)) h
  where
    go : (times m o ≤ 1 → one_if (is_among m o) ≡ times m o) → Which (eqb m j) → one_if (eqb m j) + weigh (λ i. one_if (eqb m i)) o ≤ 1
        → one_if (eqb m j || is_among m o) ≡ one_if (eqb m j) + weigh (λ i. one_if (eqb m i)) o
    go rec (holds e) h = let k = rw e at h in rw e (omega arith)
    go rec (fails e) h = let k = rw e at h in let r = rec (omega (arith, k)) in rw e (omega (arith, r))

-- each group has no more of a number than all together
pub homes-each : (l : List Living) → All (λ g. (i : ℕ) → times i g.origins ≤ homes i l) l
unfolding homes weigh
homes-each [] = tt
homes-each (g ∷ l) = ((λ i. omega arith), all-imp (λ h p i. omega (arith, p i)) l (homes-each l))

-- a list in which nothing from n on stands
pub times_below : (n : ℕ) (o : List ℕ) → ((i : ℕ) → n ≤ i → times i o ≡ 0) → All (λ i. i < n) o
unfolding times weigh
times_below n [] h = tt
times_below n (j ∷ o) h = (
  ⊎_elim
      (λ (l : j < n). l)
      (λ (l : n ≤ j). let z = h j l in let k = rw (eq-eqb j j refl) at z in absurd (omega (arith, k)))
      (lt-or-ge j n),
  times_below n o (λ i l. omega (arith, h i l)),
)

-- ---- shapes

pub unlike-zero : (u s : Shape) → length u ≡ length s → (u ≡ s → ⊥) → is_shape u s ≡ 0
unlike-zero u s p d = go (said (order u s))
  where
    go : Said (order u s) → is_shape u s ≡ 0
    go (less e) = rw e
    go (equal e) = absurd (d (order-equal u s p e))
    go (greater e) = rw e

share_other : (u : Shape) (g : Group) → length u ≡ length g.shape → (u ≡ g.shape → ⊥) → share u g ≡ 0
share_other u g p d = go (said (order u g.shape))
  where
    go : Said (order u g.shape) → share u g ≡ 0
    go (less e) = rw e
    go (equal e) = absurd (d (order-equal u g.shape p e))
    go (greater e) = rw e

others-none : (n : ℕ) (u : Shape) (gs : List Group) → length u ≡ n → All (Long n) gs → All (λ h. u ≡ h.shape → ⊥) gs → weigh (share u) gs ≡ 0
unfolding weigh
others-none n u [] p l d = refl
others-none n u (g ∷ gs) p l d = omega (arith, share_other u g (p ∙ sym l.0) d.0, others-none n u gs p l.1 d.1)

-- a group's shape has its sets, where no other group has that shape
pub share-at : (n : ℕ) (gs : List Group) (i : ℕ) → All (Long n) gs → EachTwo (λ g h. g.shape ≡ h.shape → ⊥) gs → i < length gs
    → weigh (share (group_at gs i).shape) gs ≡ (group_at gs i).sets
unfolding weigh
share-at n [] i l d h = absurd (omega arith)
share-at n (g ∷ gs) zero l d h = omega (arith, share-self g, others-none n g.shape gs l.0 l.1 d.0)
share-at n (g ∷ gs) (suc i) l d h =
    let k : i < length gs = omega arith in
    let p = all-get_or (Long n) gs i (record { shape = []; sets = 0 }) l.1 k in
    let q = all-get_or (λ x. g.shape ≡ x.shape → ⊥) gs i (record { shape = []; sets = 0 }) d.0 k in
    omega (arith, share_other (group_at gs i).shape g (p ∙ sym l.0) (λ e. q (sym e)), share-at n gs i l.1 d.1 k)
