-- The walk along two ascending sets finds the first region where they differ; and the order that this gives is total and
-- transitive. Assumes nothing.
use mathlib.Core.Path.{◌≡◌, refl, sym, ap, ap₂, ◌∙◌}
use mathlib.Core.Bool.{true, false}
use mathlib.Core.List.{List, [], ◌∷◌}
use Prim.Native.Nat.{ℕ, zero, suc, ◌+◌, ◌-◌, ◌≤◌, ◌<◌}
use native.Mathlib.Numerals.{sub-one}
use native.Mathlib.Omega.{arith}
use lib.ListN.{get_or}
use borrow.Author.Tests.{lt-ltb, le-ltb, eq-eqb, ne_eqb}
use Rattle.std.specs.declared.cmp.Ordering.{Ordering}
use Rattle.std.specs.declared.cmp.Ordering.TheVariants.{Less, Equal, Greater}
use Rattle.laws.specs.Order.{flipped, is_most}
use Rattle.laws.proofs.Cases.{Tri, tri}
use Rattle.laws.proofs.Cases.Tri.{below, same, above}
use Rattle.laws.specs.Signed.{zero_word}
use Rattle.sets.specs.Set.{Set, word_of, Ascending, Proper}
use Rattle.sets.specs.declared.Parting.{Parting}
use Rattle.sets.specs.declared.Parting.TheVariants as parts
use Rattle.sets.specs.Order.{Compared, DifferAt, PartsAt, by_words, part_none, part_head, parting, order_of, order}
use Rattle.sets.specs.Lent.{entries}
use Rattle.sets.specs.Order.Compared.{less, equal, greater}
use Rattle.sets.specs.Order.PartsAt.{alike, smaller, larger}

pub by_less : (r v u : ℕ) (p : Parting) → v < u → by_words r v u p ≡ parts.Smaller r v u
unfolding by_words
by_less r v u p h = rw (lt-ltb v u h)

pub by-more : (r v u : ℕ) (p : Parting) → u < v → by_words r v u p ≡ parts.Larger r v u
unfolding by_words
by-more r v u p h = rw (le-ltb v u (omega arith), lt-ltb u v h)

pub by-rest : (r v u : ℕ) (p : Parting) → v ≡ u → by_words r v u p ≡ p
unfolding by_words
by-rest r v u p h = rw (le-ltb v u (omega arith), le-ltb u v (omega arith))

-- Two functions that are `zero_word` below q, have v and u at q, and from then on are f' and g'.
module _ {f g f' g' : ℕ → ℕ} {t v u : ℕ} (q : ℕ) (from : t ≤ q)
    (f-below : (k : ℕ) → k < q → f k ≡ zero_word) (g-below : (k : ℕ) → k < q → g k ≡ zero_word)
    (f-at : f q ≡ v) (g-at : g q ≡ u)
    (f-rest : (k : ℕ) → q < k → f k ≡ f' k) (g-rest : (k : ℕ) → q < k → g k ≡ g' k) where
  agree : v ≡ u → (r : ℕ) → ((k : ℕ) → suc q ≤ k → k < r → f' k ≡ g' k) → (k : ℕ) → k < r → f k ≡ g k
  agree e r h k l = go (tri k q)
    where
      go : Tri k q → f k ≡ g k
      go (below p) = f-below k p ∙ sym (g-below k p)
      go (same p) = rw p (f-at ∙ e ∙ sym g-at)
      go (above p) = f-rest k p ∙ h k p l ∙ sym (g-rest k p)

  -- they differ at q
  here : DifferAt t f g q v u
  here = record { from = from; agree = λ k _ l. f-below k l ∙ sym (g-below k l); left = sym f-at; right = sym g-at }

  -- they do not, and part later
  later : {r x y : ℕ} → v ≡ u → DifferAt (suc q) f' g' r x y → DifferAt t f g r x y
  later {r} {x} {y} e d = record {
    from = omega (arith, d.from);
    agree = λ k _. agree e r d.agree k;
    left = d.left ∙ sym (f-rest r d.from);
    right = d.right ∙ sym (g-rest r d.from);
  }

  join : {p : Parting} → v ≡ u → PartsAt (suc q) f' g' p → PartsAt t f g p
  join e (alike h) = alike (λ k _. agree e (suc k) (λ j a _. h j a) k (omega arith))
  join e (smaller r x y d l) = smaller r x y (later e d) l
  join e (larger r x y d l) = larger r x y (later e d) l

  step : (p : Parting) → PartsAt (suc q) f' g' p → PartsAt t f g (by_words q v u p)
  step p c = go (tri v u)
    where
      go : Tri v u → PartsAt t f g (by_words q v u p)
      go (below l) = rw (by_less q v u p l) (smaller q v u here l)
      go (same l) = rw (by-rest q v u p l) (join l c)
      go (above l) = rw (by-more q v u p l) (larger q v u here l)

pub word-head : (e : ℕ × ℕ) (l : Set) (k : ℕ) → e.0 ≡ k → word_of (e ∷ l) k ≡ e.1
unfolding word_of
word-head e l k h = rw (eq-eqb e.0 k h)

pub word-tail : (e : ℕ × ℕ) (l : Set) (k : ℕ) → (e.0 ≡ k → ⊥) → word_of (e ∷ l) k ≡ word_of l k
unfolding word_of
word-tail e l k h = rw (ne_eqb e.0 k h)

pub word_below : (l : Set) (t k : ℕ) → Ascending t l → k < t → word_of l k ≡ zero_word
unfolding word_of
word_below [] t k a h = refl
word_below (e ∷ l) t k a h = word-tail e l k (omega arith) ∙ word_below l (suc e.0) k a.1 (omega arith)

-- a region past those that a set may name has the word of zero
pub word-past : (n k : ℕ) (l : Set) → Proper n l → n ≤ k → word_of l k ≡ zero_word
unfolding word_of
word-past n k [] p h = refl
word-past n k (e ∷ l) p h = word-tail e l k (let b = p.0.1 in λ q. omega arith) ∙ word-past n k l p.1 h

pub proper-more : (m n : ℕ) (l : Set) → m ≤ n → Proper m l → Proper n l
proper-more m n [] h p = tt
proper-more m n (e ∷ l) h p = ((p.0.0, omega (arith, p.0.1)), proper-more m n l h p.1)

none_right : (b : Set) (t : ℕ) → Ascending t b → PartsAt t (word_of []) (word_of b) (part_none b)
unfolding part_none word_of
none_right [] t p = alike (λ k _. refl)
none_right (d ∷ b) t p =
    step {v = zero_word} {u = d.1} d.0 p.0 (λ k h. refl) (λ k h. word_below (d ∷ b) d.0 k (omega arith, p.1) h) refl (word-head d b d.0 refl)
    (λ k h. refl) (λ k h. word-tail d b k (omega arith)) (part_none b) (none_right b (suc d.0) p.1)

head-right : (e : ℕ × ℕ) (a : Set) → Ascending (suc e.0) a
    → ((b : Set) (t : ℕ) → Ascending t a → Ascending t b → PartsAt t (word_of a) (word_of b) (parting a b))
    → (b : Set) (t : ℕ) → t ≤ e.0 → Ascending t b → PartsAt t (word_of (e ∷ a)) (word_of b) (part_head e (parting a) b)
unfolding part_head
head-right e a asc ih [] t p _ =
    step {v = e.1} {u = zero_word} e.0 p (λ k h. word_below (e ∷ a) e.0 k (omega arith, asc) h) (λ k h. word_below [] e.0 k tt h) (word-head e a e.0 refl) (word_below [] (suc e.0) e.0 tt (omega arith))
    (λ k h. word-tail e a k (omega arith)) (λ k h. refl) (parting a []) (ih [] (suc e.0) asc tt)
head-right e a asc ih (d ∷ b) t p q = go (λ s l r. head-right e a asc ih b s l r) (tri e.0 d.0)
  where
    f-below : (k : ℕ) → k < e.0 → word_of (e ∷ a) k ≡ zero_word
    f-below k h = word_below (e ∷ a) e.0 k (omega arith, asc) h

    g-below : (k : ℕ) → k < d.0 → word_of (d ∷ b) k ≡ zero_word
    g-below k h = word_below (d ∷ b) d.0 k (omega arith, q.1) h

    go : ((s : ℕ) → s ≤ e.0 → Ascending s b → PartsAt s (word_of (e ∷ a)) (word_of b) (part_head e (parting a) b)) → Tri e.0 d.0 → PartsAt t (word_of (e ∷ a)) (word_of (d ∷ b)) (part_head e (parting a) (d ∷ b))
    go more (below h) = rw (lt-ltb e.0 d.0 h)
        (step {v = e.1} {u = zero_word} e.0 p f-below (λ k l. g-below k (omega arith)) (word-head e a e.0 refl) (g-below e.0 h)
        (λ k l. word-tail e a k (omega arith)) (λ k l. refl) (parting a (d ∷ b)) (ih (d ∷ b) (suc e.0) asc (h, q.1)))
    go more (same h) = rw (le-ltb e.0 d.0 (omega arith), le-ltb d.0 e.0 (omega arith))
        (step {v = e.1} {u = d.1} e.0 p f-below (λ k l. g-below k (omega arith)) (word-head e a e.0 refl) (word-head d b e.0 (sym h))
        (λ k l. word-tail e a k (omega arith)) (λ k l. word-tail d b k (omega arith)) (parting a b) (ih b (suc e.0) asc (rw h q.1)))
    go more (above h) = rw (le-ltb e.0 d.0 (omega arith), lt-ltb d.0 e.0 h)
        (step {v = zero_word} {u = d.1} d.0 q.0 (λ k l. f-below k (omega arith)) g-below (f-below d.0 h) (word-head d b d.0 refl)
        (λ k l. refl) (λ k l. word-tail d b k (omega arith)) (part_head e (parting a) b) (more (suc d.0) h q.1))

-- THE LAW: along two ascending sets the walk finds the first region where they differ, if there is one, and the words of both there
pub parting-right : (a b : Set) (t : ℕ) → Ascending t a → Ascending t b → PartsAt t (word_of a) (word_of b) (parting a b)
unfolding parting
parting-right [] b t p q = none_right b t q
parting-right (e ∷ a) b t p q = head-right e a p.1 (λ c s. parting-right a c s) b t p.0 q

-- and so the order is right
parts-compared : {t : ℕ} {f g : ℕ → ℕ} {p : Parting} → PartsAt t f g p → Compared t f g (order_of p)
unfolding order_of
parts-compared (alike h) = equal h
parts-compared (smaller r v u d l) = less r d.from d.agree (rw (← d.left, ← d.right) l)
parts-compared (larger r v u d l) = greater r d.from d.agree (rw (← d.left, ← d.right) l)

pub order-right : (a b : Set) (t : ℕ) → Ascending t a → Ascending t b → Compared t (word_of a) (word_of b) (order a b)
unfolding order
order-right a b t p q = parts-compared (parting-right a b t p q)

-- Of three functions: if the first is at most the second, and that at most the third, then the first is at most the third.
-- `Above` is the one answer that rules that out.
pub data AtMost (f g : ℕ → ℕ) : Type 0 where
  lower : (r : ℕ) → ((k : ℕ) → k < r → f k ≡ g k) → f r < g r → AtMost f g
  level : ((k : ℕ) → f k ≡ g k) → AtMost f g

at-most-trans : {f g h : ℕ → ℕ} → AtMost f g → AtMost g h → AtMost f h
at-most-trans (level p) (level q) = level (λ k. p k ∙ q k)
at-most-trans (level p) (lower r q l) = lower r (λ k i. p k ∙ q k i) (rw (p r) l)
at-most-trans (lower r p l) (level q) = lower r (λ k i. p k i ∙ q k) (rw (sym (q r)) l)
at-most-trans {f} {g} {h} (lower r p l) (lower s q m) = go (tri r s)
  where
    go : Tri r s → AtMost f h
    go (below i) = lower r (λ k j. p k j ∙ q k (omega arith)) (omega (arith, q r i))
    go (same i) = lower r (λ k j. p k j ∙ q k (omega arith)) (let m' : g r < h r = rw i m in omega arith)
    go (above i) = lower s (λ k j. p k (omega arith) ∙ q k j) (omega (arith, p s i))

at-most-not : {f g : ℕ → ℕ} → AtMost f g → Compared 0 f g Greater → ⊥
at-most-not (level p) (greater r _ q l) = omega (arith, p r)
at-most-not {f} {g} (lower s p m) (greater r _ q l) = go (tri s r)
  where
    go : Tri s r → ⊥
    go (below i) = omega (arith, q s (omega arith) i)
    go (same i) = let l' : g s < f s = rw i l in omega arith
    go (above i) = omega (arith, p r i)

at-most-of : {f g : ℕ → ℕ} (o : Ordering) → Compared 0 f g o → is_most o ≡ true → AtMost f g
unfolding is_most
at-most-of Less (less r _ p l) e = lower r (λ k. p k (omega arith)) l
at-most-of Equal (equal p) e = level (λ k. p k (omega arith))
at-most-of Greater (greater r _ p l) e = let z : ◌≡◌ {A = ℕ} 0 1 = cc in absurd (omega arith)

is-most-of : {f g : ℕ → ℕ} (o : Ordering) → Compared 0 f g o → AtMost f g → is_most o ≡ true
unfolding is_most
is-most-of Less c m = refl
is-most-of Equal c m = refl
is-most-of Greater c m = absurd (at-most-not m c)

at-most-back : {f g : ℕ → ℕ} (o : Ordering) → Compared 0 f g o → is_most o ≡ false → AtMost g f
unfolding is_most
at-most-back Less (less r _ p l) e = let z : ◌≡◌ {A = ℕ} 0 1 = cc in absurd (omega arith)
at-most-back Equal (equal p) e = let z : ◌≡◌ {A = ℕ} 0 1 = cc in absurd (omega arith)
at-most-back Greater (greater r _ p l) e = lower r (λ k h. sym (p k (omega arith) h)) l

-- the order on ascending sets is transitive and total
pub order_trans : (a b c : Set) → Ascending 0 a → Ascending 0 b → Ascending 0 c
    → is_most (order a b) ≡ true → is_most (order b c) ≡ true → is_most (order a c) ≡ true
order_trans a b c p q r l m =
    is-most-of (order a c) (order-right a c 0 p r)
    (at-most-trans (at-most-of (order a b) (order-right a b 0 p q) l) (at-most-of (order b c) (order-right b c 0 q r) m))

pub order-total : (a b : Set) → Ascending 0 a → Ascending 0 b → is_most (order a b) ≡ false → is_most (order b a) ≡ true
order-total a b p q l =
    is-most-of (order b a) (order-right b a 0 q p) (at-most-back (order a b) (order-right a b 0 p q) l)

-- entries that stand in a list of words
pub entries-cons : (a m : ℕ) (w : List ℕ) → 0 < m → entries a m w ≡ (get_or w a 0, get_or w (a + 1) 0) ∷ entries (a + 2) (m - 1) w
unfolding entries
entries-cons a zero w h = absurd (omega arith)
entries-cons a (suc m) w h = rw (sub-one (suc m))

pub entries_none : (a : ℕ) (w : List ℕ) → entries a 0 w ≡ []
unfolding entries
entries_none a w = refl

-- What is right of two functions is one answer: so `Compared` says "if and only if".
pub compared-unique : {f g : ℕ → ℕ} (o q : Ordering) → Compared 0 f g o → Compared 0 f g q → o ≡ q
compared-unique Less Less c d = refl
compared-unique Less Equal (less r _ _ l) (equal e) = absurd (omega (arith, e r (omega arith)))
compared-unique Less Greater (less r t p l) d = absurd (at-most-not (lower r (λ k. p k (omega arith)) l) d)
compared-unique Equal Less (equal e) (less r _ _ l) = absurd (omega (arith, e r (omega arith)))
compared-unique Equal Equal c d = refl
compared-unique Equal Greater (equal e) (greater r _ _ l) = absurd (omega (arith, e r (omega arith)))
compared-unique Greater Less c (less r t p l) = absurd (at-most-not (lower r (λ k. p k (omega arith)) l) c)
compared-unique Greater Equal (greater r _ _ l) (equal e) = absurd (omega (arith, e r (omega arith)))
compared-unique Greater Greater c d = refl

-- ---- the order the other way round, and equal sets

compared-flip : {f g : ℕ → ℕ} {o : Ordering} → Compared 0 f g o → Compared 0 g f (flipped o)
unfolding flipped
compared-flip (less r t p l) = greater r t (λ k a b. sym (p k a b)) l
compared-flip (equal p) = equal (λ k a. sym (p k a))
compared-flip (greater r t p l) = less r t (λ k a b. sym (p k a b)) l

pub order_flip : (a b : Set) → Ascending 0 a → Ascending 0 b → order b a ≡ flipped (order a b)
order_flip a b p q = compared-unique (order b a) (flipped (order a b)) (order-right b a 0 q p) (compared-flip (order-right a b 0 p q))

-- at most each other, equal
pub order-both : (a b : Set) → Ascending 0 a → Ascending 0 b → is_most (order a b) ≡ true → is_most (order b a) ≡ true → order a b ≡ Equal
unfolding is_most flipped
order-both a b p q l m = go (order a b) l (sym (ap is_most (order_flip a b p q)) ∙ m)
  where
    go : (o : Ordering) → is_most o ≡ true → is_most (flipped o) ≡ true → o ≡ Equal
    go Less x y = let z : ◌≡◌ {A = ℕ} 0 1 = cc in absurd (omega arith)
    go Equal x y = refl
    go Greater x y = let z : ◌≡◌ {A = ℕ} 0 1 = cc in absurd (omega arith)

pub order-self : (a : Set) → Ascending 0 a → order a a ≡ Equal
order-self a p = compared-unique (order a a) Equal (order-right a a 0 p p) (equal (λ k _. refl))

-- two sets that have the same words are the same: no value is zero
pub words_same : (regions t : ℕ) (a b : Set) → Ascending t a → Ascending t b → Proper regions a → Proper regions b
    → ((k : ℕ) → t ≤ k → word_of a k ≡ word_of b k) → a ≡ b
unfolding word_of
words_same regions t [] [] p q x y h = refl
words_same regions t [] (d ∷ b) p q x y h = absurd (y.0.0 (sym (h d.0 q.0 ∙ word-head d b d.0 refl)))
words_same regions t (e ∷ a) [] p q x y h = absurd (x.0.0 (sym (word-head e a e.0 refl) ∙ h e.0 p.0))
words_same regions t (e ∷ a) (d ∷ b) p q x y h = go (λ k. words_same regions (suc e.0) a b p.1 k x.1 y.1) (tri e.0 d.0)
  where
    go : (Ascending (suc e.0) b → ((k : ℕ) → suc e.0 ≤ k → word_of a k ≡ word_of b k) → a ≡ b) → Tri e.0 d.0 → e ∷ a ≡ d ∷ b
    go rec (below l) = absurd (x.0.0
        (sym (word-head e a e.0 refl) ∙ h e.0 p.0 ∙ word_below (d ∷ b) d.0 e.0 (omega arith, q.1) l))
    go rec (same l) =
        let v : e.1 ≡ d.1 = sym (word-head e a e.0 refl) ∙ h e.0 p.0 ∙ word-head d b e.0 (sym l) in
        ap₂ ◌∷◌ (λ i. (l i, v i))
        (rec (rw l q.1) (λ k m. sym (word-tail e a k (omega arith)) ∙ h k (omega arith) ∙ word-tail d b k (omega arith)))
    go rec (above l) = absurd (y.0.0
        (sym (word-head d b d.0 refl) ∙ sym (h d.0 q.0) ∙ word_below (e ∷ a) e.0 d.0 (omega arith, p.1) l))

-- so Equal is said of equal sets alone
pub order-equal : (regions : ℕ) (a b : Set) → Ascending 0 a → Ascending 0 b → Proper regions a → Proper regions b → order a b ≡ Equal → a ≡ b
order-equal regions a b p q x y e = go (order a b) (order-right a b 0 p q) e
  where
    go : (o : Ordering) → Compared 0 (word_of a) (word_of b) o → o ≡ Equal → a ≡ b
    go Less c e = let z : ◌≡◌ {A = ℕ} 0 1 = cc in absurd (omega arith)
    go Equal (equal h) e = words_same regions 0 a b p q x y h
    go Greater c e = let z : ◌≡◌ {A = ℕ} 0 1 = cc in absurd (omega arith)
