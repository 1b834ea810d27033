-- Groups are fixed by how many sets each shape has: so two jobs that say the same sets have the same groups. Assumes nothing.
use mathlib.Core.Path.{◌≡◌, refl, sym, ap, ap₂, ◌∙◌}
use mathlib.Core.List.{List, [], ◌∷◌, Memᴰ}
use Prim.Native.Nat.{ℕ, ◌<◌}
use native.Mathlib.Omega.{arith}
use Rattle.std.specs.declared.cmp.Ordering.TheVariants.{Less}
use Rattle.laws.specs.Every.{All, EachTwo}
use Rattle.laws.specs.Bag.{weigh}
use Rattle.shapes.specs.Shape.{Shape}
use Rattle.shapes.specs.Order.{order}
use Rattle.shapes.specs.Group.{Group}
use Rattle.shapes.proofs.OrderLaws.{order-equal, order-chain}
use Rattle.sets.specs.Set.{Set}
use Rattle.groups.specs.Groups.{shape_of, Before, groups_of}
use Rattle.groups.proofs.GroupLaws.{Said, said, Long, flip-less, groups-before, groups-long, groups-some}
use Rattle.groups.proofs.GroupLaws.Said.{less, equal, greater}
use Rattle.sizes.proofs.Shares.{share, is_shape, share-none, share-self, groups-share}
use Rattle.unordered.proofs.Alike.{Fine, distinct-bag}

-- ---- groups in their order, by how many sets each shape has

-- what is before the first of some groups has no set among them
share-ahead : (n : ℕ) (g h : Group) (hs : List Group) → Long n g → All (Long n) (h ∷ hs) → Before g h → All (Before h) hs → weigh (share g.shape) (h ∷ hs) ≡ 0
share-ahead n g h hs p l b bs = share-none g.shape (h ∷ hs) (b, go hs l.1 bs)
  where
    go : (ks : List Group) → All (Long n) ks → All (Before h) ks → All (λ k. order g.shape k.shape ≡ Less) ks
    go [] m c = tt
    go (k ∷ ks) m c =
        ((order-chain g.shape h.shape k.shape (p ∙ sym l.0) (l.0 ∙ sym m.0)).less-less b c.0, go ks m.1 c.1)

module _ (n : ℕ) where
  -- THE LAW
  counts_same : (gs hs : List Group) → All (Long n) gs → All (Long n) hs → EachTwo Before gs → EachTwo Before hs
      → All (λ g. 0 < g.sets) gs → All (λ g. 0 < g.sets) hs → ((u : Shape) → weigh (share u) gs ≡ weigh (share u) hs) → gs ≡ hs
  unfolding weigh
  counts_same [] [] l m b c p q e = refl
  counts_same [] (h ∷ hs) l m b c p q e = absurd (let some = q.0 in omega (arith, e h.shape, share-self h))
  counts_same (g ∷ gs) [] l m b c p q e = absurd (let some = p.0 in omega (arith, e g.shape, share-self g))
  counts_same (g ∷ gs) (h ∷ hs) l m b c p q e =
      go (λ k. counts_same gs hs l.1 m.1 b.1 c.1 p.1 q.1 k) (said (order g.shape h.shape))
    where
      go : (((u : Shape) → weigh (share u) gs ≡ weigh (share u) hs) → gs ≡ hs) → Said (order g.shape h.shape) → g ∷ gs ≡ h ∷ hs
      go rec (less o) = absurd
          (let some = p.0 in let none = share-ahead n g h hs l.0 m o c.0 in omega (arith, e g.shape, share-self g))
      go rec (equal o) =
          let shape_is : g.shape ≡ h.shape = order-equal g.shape h.shape (l.0 ∙ sym m.0) o in
          let a = share-none g.shape gs b.0 in
          let d = ap (λ (u : Shape). weigh (share u) hs) shape_is ∙ share-none h.shape hs c.0 in
          let f = ap (λ (u : Shape). share u h) shape_is ∙ share-self h in
          let sets-are : g.sets ≡ h.sets = omega (arith, e g.shape, share-self g) in
          let this : g ≡ h = (λ i. record { shape = shape_is i; sets = sets-are i }) in
          ap₂ ◌∷◌ this (rec (λ u. omega (arith, e u, ap (share u) this)))
      go rec (greater o) = absurd
          (let some = q.0 in
          let none = share-ahead n h g gs m.0 l (flip-less n g.shape h.shape l.0 m.0 o) b.0 in
          omega (arith, e h.shape, share-self h))

-- THE LAW: the starting groups (M1) are the same
pub groups-same : (regions : ℕ) (s t : List Set) → All (Fine regions) s → All (Fine regions) t
    → ((x : Set) → Memᴰ x s → Memᴰ x t) → ((x : Set) → Memᴰ x t → Memᴰ x s) → groups_of regions s ≡ groups_of regions t
groups-same regions s t p q there back =
    counts_same regions (groups_of regions s) (groups_of regions t) (groups-long regions s) (groups-long regions t)
    (groups-before regions s) (groups-before regions t) (groups-some regions s) (groups-some regions t)
    (λ u.
    groups-share regions u s
    ∙ (distinct-bag regions s t p q there back).weighs (λ x. is_shape u (shape_of regions x))
    ∙ sym (groups-share regions u t))
