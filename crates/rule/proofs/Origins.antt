-- Where the living groups came from: every starting group is in one of them and in no other, which has their shapes
-- joined and as many sets as they together. Assumes nothing.
use mathlib.Core.Path.{◌≡◌, refl, sym, ap, ap₂, ◌∙◌}
use mathlib.Core.Option.{some}
use mathlib.Core.Logic.{⊎_elim}
use mathlib.Core.List.{List, [], ◌∷◌, ◌++◌, Memᴰ}
use Prim.Native.Nat.{ℕ, suc, ◌+◌, ◌≤◌, ◌<◌}
use lib.ListN.{length, get_or}
use lib.Dec.{eqb}
use borrow.Author.Tests.{eq-eqb, ne_eqb}
use native.Mathlib.Nat.{add-zero}
use native.Mathlib.Omega.{arith}
use Rattle.laws.specs.Pick.{pick}
use Rattle.laws.specs.Bag.{weigh}
use Rattle.laws.specs.Every.{All}
use Rattle.laws.proofs.Cases.{same_or_not}
use Rattle.laws.proofs.BagLaws.{weigh-append}
use Rattle.laws.proofs.EveryLaws.{all_append}
use Rattle.shapes.specs.Shape.{Shape, join}
use Rattle.shapes.specs.Group.{Group}
use Rattle.shapes.proofs.ShapeLaws.{join-comm, join-none, join-assoc}
use Rattle.shapes.proofs.GroupLaws.{joined-shape, joined-sets}
use Rattle.rule.specs.Model.{Living, Pair, State, joined_as, choice, merge, run, number, start}
use Rattle.rule.proofs.PairLaws.{pairs-all, pairs-sum, sum-end, chosen-has}
use Rattle.rule.proofs.Theorems.{run-keeps}

-- ---- each starting group is in exactly one living group

-- how often i stands in a list
unfoldable pub times : ℕ → List ℕ → ℕ
times i = weigh (λ j. pick (eqb i j) 1 0)

-- how often i is an origin of the groups
unfoldable pub homes : ℕ → List Living → ℕ
homes i = weigh (λ g. times i g.origins)

merge-homes : (i n : ℕ) (s : State) (c : Pair) → choice s.living ≡ some c → homes i s.living ≡ n → homes i (merge s c).living ≡ n
unfolding merge homes times
merge-homes i n s c e h =
    let f : Living → ℕ = λ g. weigh (λ j. pick (eqb i j) 1 0) g.origins in
    let a = chosen-has _ s.living c e (pairs-sum f s.living) in
    let b = sum-end f c.rest (joined_as s.next c.first c.second) in
    let d = weigh-append (λ j. pick (eqb i j) 1 0) c.first.origins c.second.origins in
    omega arith

times-one : (i k : ℕ) → i ≡ k → times i (k ∷ []) ≡ 1
unfolding times weigh
times-one i k e = rw (eq-eqb i k e)

times_none : (i k : ℕ) → (i ≡ k → ⊥) → times i (k ∷ []) ≡ 0
unfolding times weigh
times_none i k e = rw (ne_eqb i k e)

number-out : (i k : ℕ) (xs : List Group) → i < k → homes i (number k xs) ≡ 0
unfolding number homes weigh
number-out i k [] h = refl
number-out i k (x ∷ xs) h = let a = times_none i k (omega arith) in omega (arith, number-out i (suc k) xs (omega arith))

number_past : (i k : ℕ) (xs : List Group) → k + length xs ≤ i → homes i (number k xs) ≡ 0
unfolding number homes weigh
number_past i k [] h = refl
number_past i k (x ∷ xs) h = let a = times_none i k (omega arith) in omega (arith, number_past i (suc k) xs (omega arith))

number_in : (i k : ℕ) (xs : List Group) → k ≤ i → i < k + length xs → homes i (number k xs) ≡ 1
unfolding number homes weigh
number_in i k [] h l = absurd (omega arith)
number_in i k (x ∷ xs) h l = ⊎_elim
    (λ (e : i ≡ k). let a = times-one i k e in omega (arith, number-out i (suc k) xs (omega arith)))
    (λ d. let a = times_none i k d in omega (arith, number_in i (suc k) xs (omega arith) (omega arith)))
    (same_or_not i k)

-- each starting number is an origin of one living group, once
pub one-home : (k : ℕ) (xs : List Group) (i : ℕ) → i < length xs → homes i (run k (start xs)).living ≡ 1
unfolding start
one-home k xs i h = run-keeps (λ s. homes i s.living ≡ 1) (merge-homes i 1) k (start xs) (number_in i 0 xs (omega arith) (omega arith))

-- and no other number is
pub no-home : (k : ℕ) (xs : List Group) (i : ℕ) → length xs ≤ i → homes i (run k (start xs)).living ≡ 0
unfolding start
no-home k xs i h = run-keeps (λ s. homes i s.living ≡ 0) (merge-homes i 0) k (start xs) (number_past i 0 xs (omega arith))

-- ---- its shape and its sets

abbrev nil : Group
nil = record { shape = []; sets = 0 }

-- the join of the shapes of starting groups
unfoldable pub join_of : List Group → List ℕ → Shape
join_of xs [] = []
join_of xs (i ∷ l) = join (get_or xs i nil).shape (join_of xs l)

-- the sum of their sets
unfoldable pub sets_of : List Group → List ℕ → ℕ
sets_of xs = weigh (λ i. (get_or xs i nil).sets)

pub record Made (xs : List Group) (g : Living) : Type 0 where
  pub shape_is : g.group.shape ≡ join_of xs g.origins
  pub sets-is : g.group.sets ≡ sets_of xs g.origins

join-append : (xs : List Group) (l m : List ℕ) → join_of xs (l ++ m) ≡ join (join_of xs l) (join_of xs m)
unfolding join_of
join-append xs [] m = sym (join-none (join_of xs m))
join-append xs (i ∷ l) m = ap (join (get_or xs i nil).shape) (join-append xs l m) ∙ sym (join-assoc (get_or xs i nil).shape (join_of xs l) (join_of xs m))

made-joined : (xs : List Group) (k : ℕ) (a b : Living) → Made xs a → Made xs b → Made xs (joined_as k a b)
unfolding sets_of
made-joined xs k a b p q = record {
  shape_is = joined-shape a.group b.group ∙ ap₂ join p.shape_is q.shape_is ∙ sym (join-append xs a.origins b.origins);
  sets-is = joined-sets a.group b.group ∙ ap₂ ◌+◌ p.sets-is q.sets-is ∙ sym (weigh-append (λ i. (get_or xs i nil).sets) a.origins b.origins);
}

number-made : (all : List Group) (k : ℕ) (xs : List Group) → ((j : ℕ) → j < length xs → get_or all (k + j) nil ≡ get_or xs j nil) → All (Made all) (number k xs)
unfolding number sets_of join_of weigh
number-made all k [] h = tt
number-made all k (x ∷ xs) h =
    let e : get_or all k nil ≡ x = rw add-zero at (h 0 (omega arith)) in (
      record {
        shape_is = ap (λ (g : Group). g.shape) (sym e) ∙ sym (join-none (get_or all k nil).shape) ∙ join-comm [] (get_or all k nil).shape;
        sets-is = ap (λ (g : Group). g.sets) (sym e) ∙ sym (add-zero (get_or all k nil).sets);
      },
      number-made all (suc k) xs (λ j l. let q : k + suc j ≡ suc k + j = omega arith in rw q at (h (suc j) (omega arith))),
    )

-- a living group has the shapes of its starting groups joined, and as many sets as they together
pub made : (k : ℕ) (xs : List Group) → All (Made xs) (run k (start xs)).living
unfolding start
made k xs =
    run-keeps (λ s. All (Made xs) s.living) go k (start xs)
    (number-made xs 0 xs (λ j l. let e : 0 + j ≡ j = omega arith in rw e))
  where
    go : (s : State) (c : Pair) → choice s.living ≡ some c → All (Made xs) s.living → All (Made xs) (merge s c).living
    go s c e h =
        let p = chosen-has _ s.living c e (pairs-all (Made xs) s.living h) in
        unfold merge in all_append _ c.rest _ p.2 (made-joined xs s.next c.first c.second p.0 p.1, tt)

-- ---- the one living group that a starting group is in

pub record Home (l : List Living) (i : ℕ) : Type 0 where
  pub group : Living
  pub here : Memᴰ group l
  pub origin : Memᴰ i group.origins

times-mem : (i : ℕ) (l : List ℕ) → 0 < times i l → Memᴰ i l
unfolding times weigh
times-mem i [] h = absurd (omega arith)
times-mem i (j ∷ l) h = ⊎_elim
    (λ (e : i ≡ j). Memᴰ.head e)
    (λ d. let r = rw (ne_eqb i j d) at h in Memᴰ.tail (times-mem i l (omega (arith, r))))
    (same_or_not i j)

homes-mem : (i : ℕ) (l : List Living) → 0 < homes i l → Home l i
unfolding homes weigh
homes-mem i [] h = absurd (omega arith)
homes-mem i (g ∷ l) h = ⊎_elim
    (λ (e : times i g.origins ≡ 0).
    let r = homes-mem i l (omega arith) in
    record { group = r.group; here = Memᴰ.tail r.here; origin = r.origin })
    (λ d. record { group = g; here = Memᴰ.head refl; origin = times-mem i g.origins (omega arith) })
    (same_or_not (times i g.origins) 0)

pub home : (k : ℕ) (xs : List Group) (i : ℕ) → i < length xs → Home (run k (start xs)).living i
home k xs i h = homes-mem i (run k (start xs)).living (omega (arith, one-home k xs i h))
