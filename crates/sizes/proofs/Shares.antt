-- How many sets of a job have a shape, by its groups. Assumes nothing.
use mathlib.Core.Path.{◌≡◌, refl, sym, ap, ◌∙◌}
use mathlib.Core.List.{List, [], ◌∷◌, map}
use Prim.Native.Nat.{ℕ, ◌+◌}
use native.Mathlib.Omega.{arith}
use lib.ListN.{length}
use Rattle.std.specs.declared.cmp.Ordering.{Ordering}
use Rattle.std.specs.declared.cmp.Ordering.TheVariants.{Less, Equal, Greater}
use Rattle.laws.specs.Every.{All}
use Rattle.laws.specs.Bag.{weigh}
use Rattle.laws.proofs.EveryLaws.{all, all_map}
use Rattle.laws.proofs.BagLaws.{weigh-map}
use Rattle.shapes.specs.Shape.{Shape}
use Rattle.shapes.specs.Order.{order}
use Rattle.shapes.specs.Group.{Group}
use Rattle.shapes.proofs.OrderLaws.{order-self, order-equal}
use Rattle.sets.specs.Set.{Set}
use Rattle.sets.specs.Ids.{distinct}
use Rattle.groups.specs.Groups.{shape_of, with_shape, groups_from, groups_of}
use Rattle.groups.proofs.GroupLaws.{shape-length, Said, said, with-less, with-equal, with-more, Long, with-long}
use Rattle.groups.proofs.GroupLaws.Said.{less, equal, greater}

-- ---- how many sets have a shape

-- n where the order is Equal
abbrev pub where_equal : Ordering → ℕ → ℕ
where_equal Less n = 0
where_equal Equal n = n
where_equal Greater n = 0

equal-more : (o : Ordering) (n : ℕ) → where_equal o (n + 1) ≡ where_equal o n + where_equal o 1
equal-more Less n = refl
equal-more Equal n = refl
equal-more Greater n = refl

-- the sets of a group where u is its shape
abbrev pub share : Shape → Group → ℕ
share u g = where_equal (order u g.shape) g.sets

-- 1 where u is the shape
abbrev pub is_shape : Shape → Shape → ℕ
is_shape u s = where_equal (order u s) 1

with-share : (n : ℕ) (u : Shape) (gs : List Group) (s : Shape) → length s ≡ n → All (Long n) gs → weigh (share u) (with_shape gs s) ≡ weigh (share u) gs + is_shape u s
unfolding weigh
with-share n u [] s p l = unfold with_shape in omega arith
with-share n u (g ∷ gs) s p l = go (with-share n u gs s p l.1) (said (order s g.shape))
  where
    go : weigh (share u) (with_shape gs s) ≡ weigh (share u) gs + is_shape u s → Said (order s g.shape)
        → weigh (share u) (with_shape (g ∷ gs) s) ≡ weigh (share u) (g ∷ gs) + is_shape u s
    go rec (less e) = rw (with-less g gs s e) (omega arith)
    go rec (equal e) =
        let same = order-equal s g.shape (p ∙ sym l.0) e in
        let here : is_shape u s ≡ is_shape u g.shape = ap (is_shape u) same in
        rw (with-equal g gs s e) (omega (arith, equal-more (order u g.shape) g.sets))
    go rec (greater e) = rw (with-more g gs s e) (omega (arith, rec))

from-share : (n : ℕ) (u : Shape) (gs : List Group) (l : List Shape) → All (λ s. length s ≡ n) l → All (Long n) gs
    → weigh (share u) (groups_from gs l) ≡ weigh (share u) gs + weigh (is_shape u) l
unfolding groups_from weigh
from-share n u gs [] p q = omega arith
from-share n u gs (s ∷ l) p q = omega (arith, from-share n u (with_shape gs s) l p.1 (with-long n gs s p.0 q), with-share n u gs s p.0 q)

pub share-none : (u : Shape) (gs : List Group) → All (λ h. order u h.shape ≡ Less) gs → weigh (share u) gs ≡ 0
unfolding weigh
share-none u [] h = refl
share-none u (g ∷ gs) h =
    let z : share u g ≡ 0 = ap (λ (o : Ordering). where_equal o g.sets) h.0 in
    omega (arith, share-none u gs h.1)

pub share-self : (g : Group) → share g.shape g ≡ g.sets
share-self g = ap (λ (o : Ordering). where_equal o g.sets) (order-self g.shape)

pub groups-share : (regions : ℕ) (u : Shape) (sets : List Set) → weigh (share u) (groups_of regions sets) ≡ weigh (λ s. is_shape u (shape_of regions s)) (distinct sets)
unfolding groups_of weigh
groups-share regions u sets = omega (
  arith,
  from-share regions u [] (map (shape_of regions) (distinct sets))
      (all_map (λ (s : Shape). length s ≡ regions) (shape_of regions) (distinct sets) (all (λ (s : Set). shape-length regions s) (distinct sets))) tt,
  weigh-map (is_shape u) (shape_of regions) (distinct sets),
)
