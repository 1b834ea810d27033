-- Lists that are strictly in an order are equal where each has the other's members. So the distinct sets of two jobs that say the same sets are, sorted,
-- one list, and weigh the same. Assumes nothing.
use mathlib.Core.Path.{◌≡◌, refl, sym, ap, ap₂, subst, ◌∙◌}
use mathlib.Core.Bool.{Bool, true, false}
use mathlib.Core.Logic.{⊎_elim}
use mathlib.Core.List.Memᴰ
use mathlib.Core.List.{List, [], ◌∷◌, Memᴰ}
use Prim.Native.Nat.{ℕ, ◌<◌}
use native.Mathlib.Omega.{arith}
use lib.Dec.{ltb}
use borrow.Author.Tests.{ltb-false}
use lib.ListN.{length, get_or}
use Rattle.laws.specs.Order.{is_most}
use Rattle.laws.specs.Every.{All, EachTwo}
use Rattle.laws.specs.Bag.{weigh, SameBag}
use Rattle.laws.specs.Sorting.{sorted}
use Rattle.laws.proofs.Cases.{Which, which, Tri, tri}
use Rattle.laws.proofs.Cases.Which.{holds, fails}
use Rattle.laws.proofs.Cases.Tri.{below, same, above}
use Rattle.laws.proofs.EveryLaws.{all-imp, all-and, all-intro, members, two-imp, two-end, two-get_or}
use Rattle.laws.proofs.SortLaws.{sorts, sorted_all, sorted-two}
use Rattle.sets.specs.Set.{Set, Ascending, Proper}
use Rattle.sets.specs.Order.{order}
use Rattle.sets.specs.Ids.{place, with_set, distinct_from, distinct}
use Rattle.sets.proofs.SetLaws.{order_trans, order-total, order-both, order-equal}
use Rattle.sets.proofs.IdLaws.{place-first, place_here, distinct-has, distinct-all}
use Rattle.encoder.proofs.NumberLaws.{at_mem, mem-sorted}

-- ---- members

module _ {A : Type 0} where
  -- what holds of each holds of a member
  all-mem : (P : A → Type 0) (l : List A) (x : A) → All P l → Memᴰ x l → P x
  all-mem P [] x h m = absurd (Memᴰ.not-nil m)
  all-mem P (y ∷ l) x h m = ⊎_elim
      (λ (e : x ≡ y). subst P (sym e) h.0)
      (λ t. all-mem P l x h.1 t)
      (Memᴰ.cases_cons m)

  module _ (R : A → A → Type 0) (asym : (x y : A) → R x y → R y x → ⊥) where
    -- of a list behind x, what is x or in m is in m
    rest_in : (x y : A) (l m : List A) → x ≡ y → All (R x) l → All (λ z. Memᴰ z (y ∷ m)) l → All (λ z. Memᴰ z m) l
    rest_in x y l m e r h = all-imp
        (λ z p. ⊎_elim
        (λ (q : z ≡ y). absurd (let s : R x x = subst (R x) (q ∙ sym e) p.0 in asym x x s s))
        (λ t. t)
        (Memᴰ.cases_cons p.1))
        l (all-and (R x) (λ z. Memᴰ z (y ∷ m)) l r h)

    -- THE LAW
    pub strict_same : (l m : List A) → EachTwo R l → EachTwo R m → All (λ x. Memᴰ x m) l → All (λ y. Memᴰ y l) m → l ≡ m
    strict_same [] [] r s h k = refl
    strict_same [] (y ∷ m) r s h k = absurd (Memᴰ.not-nil k.0)
    strict_same (x ∷ l) [] r s h k = absurd (Memᴰ.not-nil h.0)
    strict_same (x ∷ l) (y ∷ m) r s h k =
        let e : x ≡ y = ⊎_elim
        (λ (q : x ≡ y). q)
        (λ t. ⊎_elim
        (λ (q : y ≡ x). sym q)
        (λ u. absurd (asym x y (all-mem (R x) l y r.0 u) (all-mem (R y) m x s.0 t)))
        (Memᴰ.cases_cons k.0))
        (Memᴰ.cases_cons h.0) in
        ap₂ ◌∷◌ e
        (strict_same l m r.1 s.1 (rest_in x y l m e r.0 h.1) (rest_in y x m l (sym e) s.0 k.1))

  -- what holds of each beside what holds of each two
  two-with : (P : A → Type 0) (S : A → A → Type 0) (l : List A) → All P l → EachTwo S l → EachTwo (λ x y. (P x × P y) × S x y) l
  two-with P S [] p s = tt
  two-with P S (x ∷ l) p s =
      (all-imp (λ y q. ((p.0, q.0), q.1)) l (all-and P (S x) l p.1 s.0), two-with P S l p.1 s.1)

-- ---- the distinct sets differ

differ-with : (known : List Set) (s : Set) → EachTwo (λ x y. x ≡ y → ⊥) known → EachTwo (λ x y. x ≡ y → ⊥) (with_set known s)
unfolding with_set
differ-with known s h = go (which (ltb (place s known) (length known)))
  where
    go : Which (ltb (place s known) (length known)) → EachTwo (λ x y. x ≡ y → ⊥) (with_set known s)
    go (holds e) = rw e h
    go (fails e) = rw e
        (two-end (λ (x y : Set). x ≡ y → ⊥) known s h
        (all-intro (λ x. x ≡ s → ⊥) known [] (λ i p q. omega (arith, ltb-false (place s known) (length known) e, place-first s known i p q))))

differ-from : (known l : List Set) → EachTwo (λ x y. x ≡ y → ⊥) known → EachTwo (λ x y. x ≡ y → ⊥) (distinct_from known l)
unfolding distinct_from
differ-from known [] h = h
differ-from known (s ∷ l) h = differ-from (with_set known s) l (differ-with known s h)

pub distinct-differ : (sets : List Set) → EachTwo (λ x y. x ≡ y → ⊥) (distinct sets)
distinct-differ sets = differ-from [] sets tt

-- so each stands at its own place
pub place-own : (l : List Set) → EachTwo (λ x y. x ≡ y → ⊥) l → (k : ℕ) → k < length l → place (get_or l k []) l ≡ k
place-own l d k h = go (tri (place (get_or l k []) l) k)
  where
    go : Tri (place (get_or l k []) l) k → place (get_or l k []) l ≡ k
    go (below b) = absurd (two-get_or (λ (x y : Set). x ≡ y → ⊥) l (place (get_or l k []) l) k [] d b h (place_here (get_or l k []) l (omega arith)))
    go (same e) = e
    go (above b) = absurd (omega (arith, place-first (get_or l k []) l k h refl))

-- ---- and have the members of all

distinct-members : (sets : List Set) → All (λ x. Memᴰ x (distinct sets)) sets
distinct-members sets = all-imp
    (λ x h. Memᴰ.cast (sym (place_here x (distinct sets) h)) (at_mem (distinct sets) [] (place x (distinct sets)) h))
    sets (distinct-has [] sets)

pub distinct-in : (s t : List Set) → ((x : Set) → Memᴰ x s → Memᴰ x t) → All (λ x. Memᴰ x (distinct t)) (distinct s)
distinct-in s t there = distinct-all (λ x. Memᴰ x (distinct t)) [] s tt
    (all-imp (λ x m. all-mem (λ y. Memᴰ y (distinct t)) t x (distinct-members t) (there x m)) s (members s))

-- ---- sorted

-- set a comes no later than set b
abbrev pub not_later : Set → Set → Bool
not_later a b = is_most (order a b)

-- the distinct sets in the order of their values (F1)
abbrev pub line : List Set → List Set
line sets = sorted not_later (distinct sets)

module _ (regions : ℕ) where
  -- S3: no zeros, in rising order of region index
  abbrev pub Fine : Set → Type 0
  Fine a = Ascending 0 a × Proper regions a

  abbrev Strict : Set → Set → Type 0
  Strict a b = (not_later a b ≡ true) × (not_later b a ≡ true → ⊥)

  fine-trans : (a b c : Set) → Fine a → Fine b → Fine c → not_later a b ≡ true → not_later b c ≡ true → not_later a c ≡ true
  fine-trans a b c p q r = order_trans a b c p.0 q.0 r.0

  fine-total : (a b : Set) → Fine a → Fine b → not_later a b ≡ false → not_later b a ≡ true
  fine-total a b p q = order-total a b p.0 q.0

  module _ (sets : List Set) (fine : All Fine sets) where
    distinct-fine : All Fine (distinct sets)
    distinct-fine = distinct-all Fine [] sets tt fine

    abbrev Unlike : Set → Set → Type 0
    Unlike a b = (Fine a × Fine b) × (a ≡ b → ⊥)

    line-strict : EachTwo Strict (line sets)
    line-strict = two-imp
        (λ a b h. (
          h.0,
          λ k.
              let u = h.1 k in
              u.1 (order-equal regions a b u.0.0.0 u.0.1.0 u.0.0.1 u.0.1.1 (order-both a b u.0.0.0 u.0.1.0 h.0 k)),
        ))
        (line sets)
        (sorted-two not_later Fine fine-trans fine-total Unlike (distinct sets) distinct-fine
        (two-with Fine (λ (a b : Set). a ≡ b → ⊥) (distinct sets) distinct-fine (distinct-differ sets)))

    line-weighs : (φ : Set → ℕ) → weigh φ (line sets) ≡ weigh φ (distinct sets)
    line-weighs φ = (sorts not_later Fine fine-trans fine-total (distinct sets) distinct-fine).permuted.weighs φ

  -- two lists of sets with the same members
  module _ (s t : List Set) (fine-s : All Fine s) (fine-t : All Fine t)
      (there : (x : Set) → Memᴰ x s → Memᴰ x t) (back : (x : Set) → Memᴰ x t → Memᴰ x s) where
    line-in : (a b : List Set) → ((x : Set) → Memᴰ x a → Memᴰ x b) → All (λ x. Memᴰ x (line b)) (line a)
    line-in a b in_b = sorted_all not_later (λ x. Memᴰ x (line b)) (distinct a)
        (all-imp (λ x m. mem-sorted not_later (distinct b) x m) (distinct a) (distinct-in a b in_b))

    -- THE LAW: sorted they are one list
    pub line_same : line s ≡ line t
    line_same = strict_same Strict (λ a b p q. p.1 q.0) (line s) (line t) (line-strict s fine-s) (line-strict t fine-t) (line-in s t there) (line-in t s back)

    pub distinct-bag : SameBag (distinct s) (distinct t)
    distinct-bag = record { weighs = λ φ. sym (line-weighs s fine-s φ) ∙ ap (weigh φ) line_same ∙ line-weighs t fine-t φ }
