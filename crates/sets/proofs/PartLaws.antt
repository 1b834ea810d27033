-- What is told of where two sets part: it is one answer, its words are signed values in their order, and its region is one
-- that the sets may name. Assumes nothing.
use mathlib.Core.Path.{◌≡◌, refl, sym, ap, subst, ◌∙◌}
use mathlib.Core.Bool.{true}
use mathlib.Core.List.{[], ◌∷◌}
use mathlib.Core.Logic.{⊎_elim}
use Prim.Native.Nat.{ℕ, ◌+◌, ◌-◌, ◌≤◌, ◌<◌}
use native.Mathlib.Omega.{arith}
use lib.Signed.{lt_z}
use borrow.Author.Tests.{lt-ltb}
use Rattle.laws.specs.Signed.{zero_word, value}
use Rattle.laws.proofs.SignedLaws.{word-order}
use Rattle.laws.proofs.Cases.{Tri, tri, lt-or-ge}
use Rattle.laws.proofs.Cases.Tri.{below, same, above}
use Rattle.sets.specs.declared.Parting.{Parting}
use Rattle.sets.specs.declared.Parting.TheVariants as parts
use Rattle.sets.specs.Set.{Set, word_of, Ascending, Proper}
use Rattle.sets.specs.Order.{DifferAt, PartsAt, by_words, part_none, part_head, parting}
use Rattle.sets.specs.Order.PartsAt.{alike, smaller, larger}
use Rattle.sets.proofs.SetLaws.{word-past, parting-right}

-- ---- one answer

-- the first region where two functions differ is one, and so are their words there
pub record OnePlace (r v u s x y : ℕ) : Type 0 where
  pub region : r ≡ s
  pub left : v ≡ x
  pub right : u ≡ y

one_place : {f g : ℕ → ℕ} {r v u s x y : ℕ} → DifferAt 0 f g r v u → DifferAt 0 f g s x y → (v ≡ u → ⊥) → (x ≡ y → ⊥) → OnePlace r v u s x y
one_place {f} {g} {r} {v} {u} {s} {x} {y} d e p q = go (tri r s)
  where
    go : Tri r s → OnePlace r v u s x y
    go (below l) = absurd (p (d.left ∙ e.agree r (omega arith) l ∙ sym d.right))
    go (same l) = record { region = l; left = d.left ∙ ap f l ∙ sym e.left; right = d.right ∙ ap g l ∙ sym e.right }
    go (above l) = absurd (q (e.left ∙ d.agree s (omega arith) l ∙ sym e.right))

no_place : {f g : ℕ → ℕ} {r v u : ℕ} → ((k : ℕ) → 0 ≤ k → f k ≡ g k) → DifferAt 0 f g r v u → v ≡ u
no_place {f} {g} {r} h d = d.left ∙ h r (omega arith) ∙ sym d.right

-- THE LAW: what is right of two functions is one answer, so `PartsAt` says "if and only if"
pub parts-unique : {f g : ℕ → ℕ} {p q : Parting} → PartsAt 0 f g p → PartsAt 0 f g q → p ≡ q
parts-unique (alike h) (alike k) = refl
parts-unique (alike h) (smaller s x y e m) = absurd (omega (arith, no_place h e))
parts-unique (alike h) (larger s x y e m) = absurd (omega (arith, no_place h e))
parts-unique (smaller r v u d l) (alike k) = absurd (omega (arith, no_place k d))
parts-unique (smaller r v u d l) (smaller s x y e m) =
    let o = one_place d e (omega arith) (omega arith) in
    λ i. parts.Smaller (o.region i) (o.left i) (o.right i)
parts-unique (smaller r v u d l) (larger s x y e m) = absurd (let o = one_place d e (omega arith) (omega arith) in omega (arith, o.left, o.right))
parts-unique (larger r v u d l) (alike k) = absurd (omega (arith, no_place k d))
parts-unique (larger r v u d l) (smaller s x y e m) = absurd (let o = one_place d e (omega arith) (omega arith) in omega (arith, o.left, o.right))
parts-unique (larger r v u d l) (larger s x y e m) =
    let o = one_place d e (omega arith) (omega arith) in
    λ i. parts.Larger (o.region i) (o.left i) (o.right i)

-- ---- an answer taken apart

module _ {t : ℕ} {f g : ℕ → ℕ} {p : Parting} (h : PartsAt t f g p) where
  pub told-alike : p ≡ parts.Equal → (k : ℕ) → t ≤ k → f k ≡ g k
  told-alike e = go (subst (PartsAt t f g) e h)
    where
      go : PartsAt t f g parts.Equal → (k : ℕ) → t ≤ k → f k ≡ g k
      go (alike k) = k

  pub told-smaller : (r v u : ℕ) → p ≡ parts.Smaller r v u → DifferAt t f g r v u × (v < u)
  told-smaller r v u e = go (subst (PartsAt t f g) e h)
    where
      go : PartsAt t f g (parts.Smaller r v u) → DifferAt t f g r v u × (v < u)
      go (smaller _ _ _ d l) = (d, l)

  pub told-larger : (r v u : ℕ) → p ≡ parts.Larger r v u → DifferAt t f g r v u × (u < v)
  told-larger r v u e = go (subst (PartsAt t f g) e h)
    where
      go : PartsAt t f g (parts.Larger r v u) → DifferAt t f g r v u × (u < v)
      go (larger _ _ _ d l) = (d, l)

-- ---- of two sets

-- words are in the order of their signed values
pub signed-less : (v u : ℕ) → v < u → lt_z (value v) (value u) ≡ true
signed-less v u l = word-order v u ∙ lt-ltb v u l

module _ (a b : Set) (p : Ascending 0 a) (q : Ascending 0 b) where
  -- Equal exactly where all values are
  pub equal-all : parting a b ≡ parts.Equal → (k : ℕ) → word_of a k ≡ word_of b k
  equal-all e k = told-alike (parting-right a b 0 p q) e k (omega arith)

  pub all-equal : ((k : ℕ) → word_of a k ≡ word_of b k) → parting a b ≡ parts.Equal
  all-equal h = parts-unique (parting-right a b 0 p q) (alike (λ k _. h k))

  -- the region told is the first where the sets differ, the words are theirs there, and their signed values are in this order
  pub smaller-at : (r v u : ℕ) → parting a b ≡ parts.Smaller r v u → DifferAt 0 (word_of a) (word_of b) r v u × (lt_z (value v) (value u) ≡ true)
  smaller-at r v u e = let d = told-smaller (parting-right a b 0 p q) r v u e in (d.0, signed-less v u d.1)

  pub larger-at : (r v u : ℕ) → parting a b ≡ parts.Larger r v u → DifferAt 0 (word_of a) (word_of b) r v u × (lt_z (value u) (value v) ≡ true)
  larger-at r v u e = let d = told-larger (parting-right a b 0 p q) r v u e in (d.0, signed-less u v d.1)

-- sets that name none but the first n regions part at one of these
pub differ-below : (n : ℕ) (a b : Set) (r v u : ℕ) → Proper n a → Proper n b → DifferAt 0 (word_of a) (word_of b) r v u → (v ≡ u → ⊥) → r < n
differ-below n a b r v u p q d h = ⊎_elim
    (λ (l : r < n). l)
    (λ (l : n ≤ r). absurd (h (d.left ∙ word-past n r a p l ∙ sym (d.right ∙ word-past n r b q l))))
    (lt-or-ge r n)

-- ---- computed: {0: 5} and {0: 5, 2: -3}; {1: 4} and {1: -4, 2: 1}; a set and itself
worked :
    (parting ((0, zero_word + 5) ∷ []) ((0, zero_word + 5) ∷ (2, zero_word - 3) ∷ []) ≡ parts.Larger 2 zero_word (zero_word - 3))
    × (parting ((1, zero_word - 4) ∷ (2, zero_word + 1) ∷ []) ((1, zero_word + 4) ∷ []) ≡ parts.Smaller 1 (zero_word - 4) (zero_word + 4))
    × (parting ((1, zero_word + 4) ∷ []) ((1, zero_word + 4) ∷ []) ≡ parts.Equal)
unfolding parting part_head part_none by_words
worked = (refl, refl, refl)
