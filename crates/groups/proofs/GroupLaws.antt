-- Laws of groups by shape: their order, distinct shapes, counts. Assumes nothing.
use mathlib.Core.Path.{◌≡◌, refl, sym, ap, ◌∙◌}
use mathlib.Core.List.{List, [], ◌∷◌, ◌++◌, map}
use Prim.Native.Nat.{ℕ, zero, suc, ◌+◌, ◌≤◌, ◌<◌}
use native.Mathlib.Omega.{arith}
use lib.ListN.{length, get_or, take, drop, set, length-map}
use Rattle.std.specs.declared.cmp.Ordering.{Ordering}
use Rattle.std.specs.declared.cmp.Ordering.TheVariants.{Less, Equal, Greater}
use Rattle.laws.specs.Order.{flipped}
use Rattle.laws.specs.Every.{All, EachTwo}
use Rattle.laws.specs.Bag.{weigh}
use Rattle.laws.specs.Signed.{value}
use Rattle.laws.proofs.EveryLaws.{two-imp, all-get_or}
use Rattle.laws.proofs.BoundedLaws.{length-tabulate}
use Rattle.shapes.specs.Width.{width_of, cost_of}
use Rattle.shapes.specs.Shape.{Shape}
use Rattle.shapes.specs.Order.{order}
use Rattle.shapes.specs.Group.{Group}
use Rattle.shapes.proofs.OrderLaws.{order-self, order-equal, order_flip, order-chain}
use Rattle.sets.specs.Set.{Set, word_of}
use Rattle.sets.specs.Ids.{distinct}
use Rattle.groups.specs.Groups.{shape_of, Before, put_shape, with_shape, groups_from, groups_of}

pub shape-length : (regions : ℕ) (s : Set) → length (shape_of regions s) ≡ regions
unfolding shape_of
shape-length regions s = length-tabulate 0 regions (λ k. cost_of (width_of (value (word_of s k))))

-- one set of a shape, and one more set in a group
abbrev pub one : Shape → Group
one s = record { shape = s; sets = 1 }

abbrev pub more : Group → Group
more g = record { shape = g.shape; sets = g.sets + 1 }

pub with-less : (g : Group) (gs : List Group) (s : Shape) → order s g.shape ≡ Less → with_shape (g ∷ gs) s ≡ one s ∷ g ∷ gs
unfolding with_shape put_shape
with-less g gs s e = rw e

pub with-equal : (g : Group) (gs : List Group) (s : Shape) → order s g.shape ≡ Equal → with_shape (g ∷ gs) s ≡ more g ∷ gs
unfolding with_shape put_shape
with-equal g gs s e = rw e

pub with-more : (g : Group) (gs : List Group) (s : Shape) → order s g.shape ≡ Greater → with_shape (g ∷ gs) s ≡ g ∷ with_shape gs s
unfolding with_shape put_shape
with-more g gs s e = rw e

-- an order, with its equation
pub data Said (o : Ordering) : Type 0 where
  less : o ≡ Less → Said o
  equal : o ≡ Equal → Said o
  greater : o ≡ Greater → Said o

pub said : (o : Ordering) → Said o
said Less = less refl
said Equal = equal refl
said Greater = greater refl

-- what holds of each group after one more set
pub with_all : (Q : Group → Type 0) (gs : List Group) (s : Shape) → Q (one s) → ((g : Group) → Q g → Q (more g)) → All Q gs → All Q (with_shape gs s)
with_all Q [] s q f a = unfold with_shape in (q, tt)
with_all Q (g ∷ gs) s q f a = go (with_all Q gs s q f a.1) (said (order s g.shape))
  where
    go : All Q (with_shape gs s) → Said (order s g.shape) → All Q (with_shape (g ∷ gs) s)
    go rec (less e) = rw (with-less g gs s e) (q, a)
    go rec (equal e) = rw (with-equal g gs s e) (f g a.0, a.1)
    go rec (greater e) = rw (with-more g gs s e) (a.0, rec)

pub from_all : (Q : Group → Type 0) (gs : List Group) (l : List Shape) → All (λ s. Q (one s)) l → ((g : Group) → Q g → Q (more g)) → All Q gs → All Q (groups_from gs l)
unfolding groups_from
from_all Q gs [] q f a = a
from_all Q gs (s ∷ l) q f a = from_all Q (with_shape gs s) l q.1 f (with_all Q gs s q.0 f a)

-- ---- the groups stand in their order, so no two have one shape

abbrev pub Long : ℕ → Group → Type 0
Long n g = length g.shape ≡ n

module _ (n : ℕ) where
  pub flip-less : (s t : Shape) → length s ≡ n → length t ≡ n → order s t ≡ Greater → order t s ≡ Less
  flip-less s t p q e = order_flip s t (p ∙ sym q) ∙ (rw e (unfold flipped in refl))

  pub flip-more : (s t : Shape) → length s ≡ n → length t ≡ n → order s t ≡ Less → order t s ≡ Greater
  flip-more s t p q e = order_flip s t (p ∙ sym q) ∙ (rw e (unfold flipped in refl))

  behind : (s : Shape) (g : Group) (gs : List Group) → length s ≡ n → Long n g → order s g.shape ≡ Less → All (Long n) gs → All (Before g) gs → All (λ h. order s h.shape ≡ Less) gs
  behind s g [] p q e l b = tt
  behind s g (h ∷ gs) p q e l b = ((order-chain s g.shape h.shape (p ∙ sym q) (q ∙ sym l.0)).less-less e b.0, behind s g gs p q e l.1 b.1)

  pub with-before : (gs : List Group) (s : Shape) → length s ≡ n → All (Long n) gs → EachTwo Before gs → EachTwo Before (with_shape gs s)
  with-before [] s p l b = unfold with_shape in (tt, tt)
  with-before (g ∷ gs) s p l b = go (with-before gs s p l.1 b.1) (said (order s g.shape))
    where
      go : EachTwo Before (with_shape gs s) → Said (order s g.shape) → EachTwo Before (with_shape (g ∷ gs) s)
      go rec (less e) = rw (with-less g gs s e) ((e, behind s g gs p l.0 e l.1 b.0), b)
      go rec (equal e) = rw (with-equal g gs s e) b
      go rec (greater e) = rw (with-more g gs s e) (with_all (Before g) gs s (flip-less s g.shape p l.0 e) (λ h q. q) b.0, rec)

  pub with-long : (gs : List Group) (s : Shape) → length s ≡ n → All (Long n) gs → All (Long n) (with_shape gs s)
  with-long gs s p l = with_all (Long n) gs s p (λ g q. q) l

  pub from-before : (gs : List Group) (l : List Shape) → All (λ s. length s ≡ n) l → All (Long n) gs → EachTwo Before gs → EachTwo Before (groups_from gs l)
  unfolding groups_from
  from-before gs [] p q b = b
  from-before gs (s ∷ l) p q b = from-before (with_shape gs s) l p.1 (with-long gs s p.0 q) (with-before gs s p.0 q b)

-- ---- counts

pub with-count : (gs : List Group) (s : Shape) → weigh (λ g. g.sets) (with_shape gs s) ≡ weigh (λ g. g.sets) gs + 1
unfolding weigh
with-count [] s = unfold with_shape in refl
with-count (g ∷ gs) s = go (with-count gs s) (said (order s g.shape))
  where
    go : weigh (λ g. g.sets) (with_shape gs s) ≡ weigh (λ g. g.sets) gs + 1 → Said (order s g.shape) → weigh (λ g. g.sets) (with_shape (g ∷ gs) s) ≡ weigh (λ g. g.sets) (g ∷ gs) + 1
    go rec (less e) = rw (with-less g gs s e) (omega arith)
    go rec (equal e) = rw (with-equal g gs s e) (omega arith)
    go rec (greater e) = rw (with-more g gs s e) (omega (arith, rec))

-- THE LAW: counts add up
pub from-count : (gs : List Group) (l : List Shape) → weigh (λ g. g.sets) (groups_from gs l) ≡ weigh (λ g. g.sets) gs + length l
unfolding groups_from
from-count gs [] = omega arith
from-count gs (s ∷ l) = omega (arith, from-count (with_shape gs s) l, with-count gs s)

-- one more set makes at most one more group
pub with-length : (gs : List Group) (s : Shape) → (length gs ≤ length (with_shape gs s)) × (length (with_shape gs s) ≤ length gs + 1)
with-length [] s = unfold with_shape in (omega arith, omega arith)
with-length (g ∷ gs) s = go (with-length gs s) (said (order s g.shape))
  where
    go : (length gs ≤ length (with_shape gs s)) × (length (with_shape gs s) ≤ length gs + 1) → Said (order s g.shape)
        → (length (g ∷ gs) ≤ length (with_shape (g ∷ gs) s)) × (length (with_shape (g ∷ gs) s) ≤ length (g ∷ gs) + 1)
    go rec (less e) = rw (with-less g gs s e) (omega arith, omega arith)
    go rec (equal e) = rw (with-equal g gs s e) (omega arith, omega arith)
    go rec (greater e) = rw (with-more g gs s e) (omega (arith, rec.0), omega (arith, rec.1))

pub from-length : (gs : List Group) (l : List Shape) → (length gs ≤ length (groups_from gs l)) × (length (groups_from gs l) ≤ length gs + length l)
unfolding groups_from
from-length gs [] = (omega arith, omega arith)
from-length gs (s ∷ l) =
    let a = from-length (with_shape gs s) l in
    let b = with-length gs s in
    (omega (arith, a.0, b.0), omega (arith, a.1, b.1))

pub from-append : (gs : List Group) (l m : List Shape) → groups_from gs (l ++ m) ≡ groups_from (groups_from gs l) m
unfolding groups_from
from-append gs [] m = refl
from-append gs (s ∷ l) m = from-append (with_shape gs s) l m

-- ---- where one more set goes, in groups that stand in their order

module _ (n : ℕ) where
  -- the shape is there already, at i
  pub with_at : (gs : List Group) (i : ℕ) (d : Group) → i < length gs → All (Long n) gs → EachTwo Before gs
      → with_shape gs (get_or gs i d).shape ≡ set gs i (more (get_or gs i d))
  with_at [] i d h l b = absurd (omega arith)
  with_at (g ∷ gs) zero d h l b = with-equal g gs g.shape (order-self g.shape)
  with_at (g ∷ gs) (suc i) d h l b =
      let j : i < length gs = omega arith in
      let e = all-get_or (Before g) gs i d b.0 j in
      let k = all-get_or (Long n) gs i d l.1 j in
      with-more g gs (get_or gs i d).shape (flip-more n g.shape (get_or gs i d).shape l.0 k e) ∙ ap (λ (x : List Group). g ∷ x) (with_at gs i d j l.1 b.1)

  -- it comes behind the first i and before the others
  pub with-new : (gs : List Group) (s : Shape) (i : ℕ) (d : Group) → i ≤ length gs
      → ((k : ℕ) → k < i → order s (get_or gs k d).shape ≡ Greater) → ((k : ℕ) → i ≤ k → k < length gs → order s (get_or gs k d).shape ≡ Less)
      → with_shape gs s ≡ take i gs ++ (one s ∷ drop i gs)
  with-new [] s zero d h f g = unfold with_shape in refl
  with-new [] s (suc i) d h f g = absurd (omega arith)
  with-new (x ∷ gs) s zero d h f g = with-less x gs s (g 0 (omega arith) (omega arith))
  with-new (x ∷ gs) s (suc i) d h f g =
      with-more x gs s (f 0 (omega arith))
      ∙ ap (λ (y : List Group). x ∷ y) (with-new gs s i d (omega arith) (λ k p. f (suc k) (omega arith)) (λ k p q. g (suc k) (omega arith) (omega arith)))

-- ---- of a job's sets: what later layers lean on

shapes-long : (regions : ℕ) (l : List Set) → All (λ s. length s ≡ regions) (map (shape_of regions) l)
shapes-long regions [] = tt
shapes-long regions (s ∷ l) = (shape-length regions s, shapes-long regions l)

-- distinct groups have distinct shapes, in their order
pub groups-before : (regions : ℕ) (sets : List Set) → EachTwo Before (groups_of regions sets)
unfolding groups_of
groups-before regions sets = from-before regions [] (map (shape_of regions) (distinct sets)) (shapes-long regions (distinct sets)) tt tt

pub groups-long : (regions : ℕ) (sets : List Set) → All (Long regions) (groups_of regions sets)
unfolding groups_of
groups-long regions sets = from_all (Long regions) [] (map (shape_of regions) (distinct sets)) (shapes-long regions (distinct sets)) (λ g q. q) tt

pub before-unlike : (g h : Group) → Before g h → g.shape ≡ h.shape → ⊥
before-unlike g h b e =
    let x = order-self g.shape in
    let y = ap (order g.shape) e in
    let z : ◌≡◌ {A = ℕ} 0 1 = cc in omega arith

pub groups-unlike : (regions : ℕ) (sets : List Set) → EachTwo (λ g h. g.shape ≡ h.shape → ⊥) (groups_of regions sets)
groups-unlike regions sets = two-imp before-unlike (groups_of regions sets) (groups-before regions sets)

-- no group is empty
pub groups-some : (regions : ℕ) (sets : List Set) → All (λ g. 0 < g.sets) (groups_of regions sets)
unfolding groups_of
groups-some regions sets = from_all (λ g. 0 < g.sets) [] (map (shape_of regions) (distinct sets)) (ones (map (shape_of regions) (distinct sets))) (λ g q. omega arith) tt
  where
    ones : (l : List Shape) → All (λ s. 0 < 1) l
    ones [] = tt
    ones (s ∷ l) = (omega arith, ones l)

-- the counts are those of the distinct sets
pub groups-count : (regions : ℕ) (sets : List Set) → weigh (λ g. g.sets) (groups_of regions sets) ≡ length (distinct sets)
unfolding groups_of
groups-count regions sets =
    from-count [] (map (shape_of regions) (distinct sets)) ∙ (unfold weigh in omega (arith, length-map (distinct sets) (shape_of regions)))

pub groups-few : (regions : ℕ) (sets : List Set) → length (groups_of regions sets) ≤ length (distinct sets)
unfolding groups_of
groups-few regions sets = omega (arith, (from-length [] (map (shape_of regions) (distinct sets))).1, length-map (distinct sets) (shape_of regions))

-- ---- each set's shape is a group's

-- some group of the list has the shape
pub record Has (s : Shape) (gs : List Group) : Type 0 where
  pub place : ℕ
  pub below : place < length gs
  pub here : (get_or gs place (record { shape = []; sets = 0 })).shape ≡ s

has-tail : {s : Shape} {g : Group} {gs : List Group} → Has s gs → Has s (g ∷ gs)
has-tail h = record { place = suc h.place; below = omega (arith, h.below); here = h.here }

has-head : {s : Shape} (g : Group) (gs : List Group) → g.shape ≡ s → Has s (g ∷ gs)
has-head g gs e = record { place = 0; below = omega arith; here = e }

has-cases : {s : Shape} {g : Group} {gs : List Group} {C : Type 0} → Has s (g ∷ gs) → (g.shape ≡ s → C) → (Has s gs → C) → C
has-cases {s} {g} {gs} {C} h f r = go h.place h.below h.here
  where
    go : (i : ℕ) → i < suc (length gs) → (get_or (g ∷ gs) i (record { shape = []; sets = 0 })).shape ≡ s → C
    go zero l e = f e
    go (suc i) l e = r (record { place = i; below = omega arith; here = e })

has-with : (t s : Shape) (gs : List Group) → Has t gs → Has t (with_shape gs s)
has-with t s [] h = absurd (omega (arith, h.below))
has-with t s (g ∷ gs) h = go (λ k. has-with t s gs k) (said (order s g.shape))
  where
    go : (Has t gs → Has t (with_shape gs s)) → Said (order s g.shape) → Has t (with_shape (g ∷ gs) s)
    go rec (less e) = rw (with-less g gs s e) (has-tail h)
    go rec (equal e) = rw (with-equal g gs s e) (has-cases h (λ q. has-head (more g) gs q) (λ k. has-tail k))
    go rec (greater e) = rw (with-more g gs s e) (has-cases h (λ q. has-head g (with_shape gs s) q) (λ k. has-tail (rec k)))

has-this : (n : ℕ) (s : Shape) (gs : List Group) → length s ≡ n → All (Long n) gs → Has s (with_shape gs s)
has-this n s [] p l = unfold with_shape in has-head (one s) [] refl
has-this n s (g ∷ gs) p l = go (has-this n s gs p l.1) (said (order s g.shape))
  where
    go : Has s (with_shape gs s) → Said (order s g.shape) → Has s (with_shape (g ∷ gs) s)
    go rec (less e) = rw (with-less g gs s e) (has-head (one s) (g ∷ gs) refl)
    go rec (equal e) = rw (with-equal g gs s e) (has-head (more g) gs (sym (order-equal s g.shape (p ∙ sym l.0) e)))
    go rec (greater e) = rw (with-more g gs s e) (has-tail rec)

from-has : (n : ℕ) (gs : List Group) (l : List Shape) → All (λ s. length s ≡ n) l → All (Long n) gs → (t : Shape) → Has t gs → Has t (groups_from gs l)
unfolding groups_from
from-has n gs [] p q t h = h
from-has n gs (s ∷ l) p q t h = from-has n (with_shape gs s) l p.1 (with-long n gs s p.0 q) t (has-with t s gs h)

from-these : (n : ℕ) (gs : List Group) (l : List Shape) → All (λ s. length s ≡ n) l → All (Long n) gs → All (λ s. Has s (groups_from gs l)) l
unfolding groups_from
from-these n gs [] p q = tt
from-these n gs (s ∷ l) p q =
    let m = with-long n gs s p.0 q in
    (from-has n (with_shape gs s) l p.1 m s (has-this n s gs p.0 q), from-these n (with_shape gs s) l p.1 m)

-- THE LAW: the shape of each distinct set is the shape of one of the groups
pub groups-has : (regions : ℕ) (sets : List Set) → All (λ s. Has s (groups_of regions sets)) (map (shape_of regions) (distinct sets))
unfolding groups_of
groups-has regions sets = from-these regions [] (map (shape_of regions) (distinct sets)) (shapes-long regions (distinct sets)) tt
