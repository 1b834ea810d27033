-- The starting groups that words of origins name, and the group that a number is among: each as often as the other. Assumes nothing.
use mathlib.Core.Path.{◌≡◌, refl, sym, ap, ◌∙◌}
use mathlib.Core.List.{List, [], ◌∷◌}
use mathlib.Core.Logic.{⊎_elim}
use Prim.Native.Nat.{ℕ, zero, suc, ◌+◌, ◌*◌, ◌≤◌, ◌<◌}
use native.Mathlib.Omega.{arith}
use lib.Dec.{eqb}
use lib.ListN.{length, get_or}
use borrow.Author.Tests.{eq-eqb, ne_eqb}
use Rattle.laws.specs.Pick.{pick, one_if}
use Rattle.laws.specs.Bag.{weigh}
use Rattle.laws.specs.Bounded.{tabulate}
use Rattle.laws.proofs.Cases.{Which, which, same_or_not}
use Rattle.laws.proofs.Cases.Which.{holds, fails}
use Rattle.laws.proofs.BagLaws.{weigh-at}
use Rattle.rule.specs.Model.{Living}
use Rattle.rule.proofs.Origins.{times, homes}
use Rattle.encoder.specs.Packed.{is_among, home_of}
use Rattle.sizes.proofs.CountLaws.{among-times}
use Rattle.finishing.specs.Late.{origin_words}
use Rattle.origins.specs.Origins.{named_for}

-- ---- the words

named_step : (i q a p : ℕ) (l : List ℕ) → times i (named_for q (a ∷ p ∷ l)) ≡ pick (eqb p q) (one_if (eqb i a)) 0 + times i (named_for q l)
unfolding named_for times weigh
named_step i q a p l = go (which (eqb p q))
  where
    go : Which (eqb p q) → times i (pick (eqb p q) (a ∷ named_for q l) (named_for q l)) ≡ pick (eqb p q) (one_if (eqb i a)) 0 + times i (named_for q l)
    go (holds e) = rw e
    go (fails e) = rw e (omega arith)

module _ (q : ℕ) (f : ℕ → ℕ) (i : ℕ) where
  -- how often i is named for q by n origins from a on
  abbrev named : ℕ → ℕ → ℕ
  named a n = times i (named_for q (origin_words a (tabulate a n f)))

  named_more : (a n : ℕ) → named a (suc n) ≡ pick (eqb (f a) q) (one_if (eqb i a)) 0 + named (suc a) n
  unfolding origin_words tabulate
  named_more a n = named_step i q a (f a) (origin_words (suc a) (tabulate (suc a) n f))

  named-nil : (a : ℕ) → named a 0 ≡ 0
  unfolding origin_words tabulate named_for times weigh
  named-nil a = refl

  none_here : (a : ℕ) → (i ≡ a → ⊥) → pick (eqb (f a) q) (one_if (eqb i a)) 0 ≡ 0
  none_here a d = go (which (eqb (f a) q))
    where
      go : Which (eqb (f a) q) → pick (eqb (f a) q) (one_if (eqb i a)) 0 ≡ 0
      go (holds e) = rw (e, ne_eqb i a d)
      go (fails e) = rw e

  one-here : (a : ℕ) → i ≡ a → pick (eqb (f a) q) (one_if (eqb i a)) 0 ≡ one_if (eqb (f i) q)
  one-here a s = go (which (eqb (f a) q))
    where
      go : Which (eqb (f a) q) → pick (eqb (f a) q) (one_if (eqb i a)) 0 ≡ one_if (eqb (f i) q)
      go (holds e) = rw (e, eq-eqb i a s) (sym (ap (λ (k : ℕ). one_if (eqb (f k) q)) s ∙ rw e))
      go (fails e) = rw e (sym (ap (λ (k : ℕ). one_if (eqb (f k) q)) s ∙ rw e))

  named-low : (a n : ℕ) → i < a → named a n ≡ 0
  named-low a zero h = named-nil a
  named-low a (suc n) h = omega (arith, named_more a n, none_here a (omega arith), named-low (suc a) n (omega arith))

  pub named-high : (a n : ℕ) → a + n ≤ i → named a n ≡ 0
  named-high a zero h = named-nil a
  named-high a (suc n) h = omega (arith, named_more a n, none_here a (omega arith), named-high (suc a) n (omega arith))

  pub named_in : (a n : ℕ) → a ≤ i → i < a + n → named a n ≡ one_if (eqb (f i) q)
  named_in a zero h l = absurd (omega arith)
  named_in a (suc n) h l = ⊎_elim
      (λ (e : i ≡ a). omega (arith, named_more a n, one-here a e, named-low (suc a) n (omega arith)))
      (λ d. omega (arith, named_more a n, none_here a d, named_in (suc a) n (omega arith) (omega arith)))
      (same_or_not i a)

-- word by word
pub word_number : (a : ℕ) (l : List ℕ) (i : ℕ) → i < length l → get_or (origin_words a l) (2 * i) 0 ≡ a + i
unfolding origin_words
word_number a [] i h = absurd (omega arith)
word_number a (p ∷ l) zero h = omega arith
word_number a (p ∷ l) (suc i) h =
    let e : 2 * suc i ≡ suc (suc (2 * i)) = omega arith in
    rw e (omega (arith, word_number (suc a) l i (omega arith)))

pub word-place : (a : ℕ) (l : List ℕ) (i : ℕ) → i < length l → get_or (origin_words a l) (2 * i + 1) 0 ≡ get_or l i 0
unfolding origin_words
word-place a [] i h = absurd (omega arith)
word-place a (p ∷ l) zero h = refl
word-place a (p ∷ l) (suc i) h =
    let e : 2 * suc i + 1 ≡ suc (suc (2 * i + 1)) = omega arith in
    rw e (word-place (suc a) l i (omega arith))

-- ---- the groups

eqb-suc : (a b : ℕ) → eqb (suc a) (suc b) ≡ eqb a b
eqb-suc a b = ⊎_elim
    (λ (e : a ≡ b). eq-eqb (suc a) (suc b) (ap suc e) ∙ sym (eq-eqb a b e))
    (λ n. ne_eqb (suc a) (suc b) (λ e. n (omega arith)) ∙ sym (ne_eqb a b n))
    (same_or_not a b)

module _ (i : ℕ) (d : Living) where
  homes-cons : (g : Living) (l : List Living) → homes i (g ∷ l) ≡ times i g.origins + homes i l
  unfolding homes weigh
  homes-cons g l = refl

  homes-nil : homes i [] ≡ 0
  unfolding homes weigh
  homes-nil = refl

  home_here : (g : Living) (l : List Living) → times i g.origins ≡ 1 → home_of i (g ∷ l) ≡ 0
  unfolding home_of
  home_here g l h = go (which (is_among i g.origins))
    where
      go : Which (is_among i g.origins) → pick (is_among i g.origins) 0 (suc (home_of i l)) ≡ 0
      go (holds e) = rw e
      go (fails e) = let z = rw e at (among-times i g.origins (omega arith)) in absurd (omega (arith, z))

  home-later : (g : Living) (l : List Living) → times i g.origins ≡ 0 → home_of i (g ∷ l) ≡ suc (home_of i l)
  unfolding home_of
  home-later g l h = go (which (is_among i g.origins))
    where
      go : Which (is_among i g.origins) → pick (is_among i g.origins) 0 (suc (home_of i l)) ≡ suc (home_of i l)
      go (holds e) = let z = rw e at (among-times i g.origins (omega arith)) in absurd (omega (arith, z))
      go (fails e) = rw e

  pub times-few : (l : List Living) (q : ℕ) → q < length l → times i (get_or l q d).origins ≤ homes i l
  unfolding homes
  times-few l q h = weigh-at (λ (g : Living). times i g.origins) l q d h

  -- of groups one of which has i among its origins, once: it is the one at the place of i
  pub home-times : (l : List Living) → homes i l ≡ 1 → (q : ℕ) → q < length l → times i (get_or l q d).origins ≡ one_if (eqb (home_of i l) q)
  home-times [] o q h = absurd (omega arith)
  home-times (g ∷ l) o q h = ⊎_elim
      (λ (z : times i g.origins ≡ 0). later (λ p. home-times l (omega (arith, homes-cons g l)) p) z q h)
      (λ n. here (omega (arith, homes-cons g l)) q h)
      (same_or_not (times i g.origins) 0)
    where
      here : times i g.origins ≡ 1 → (q : ℕ) → q < length (g ∷ l) → times i (get_or (g ∷ l) q d).origins ≡ one_if (eqb (home_of i (g ∷ l)) q)
      here z zero h = rw (home_here g l z) z
      here z (suc q) h = rw (home_here g l z, ne_eqb 0 (suc q) (omega arith)) (omega (arith, homes-cons g l, times-few l q (omega arith)))

      later : ((p : ℕ) → p < length l → times i (get_or l p d).origins ≡ one_if (eqb (home_of i l) p)) → times i g.origins ≡ 0 → (q : ℕ) → q < length (g ∷ l) → times i (get_or (g ∷ l) q d).origins ≡ one_if (eqb (home_of i (g ∷ l)) q)
      later rest z zero h = rw (home-later g l z, ne_eqb (suc (home_of i l)) 0 (omega arith)) z
      later rest z (suc q) h = rw (home-later g l z, eqb-suc (home_of i l) q) (rest q (omega arith))

  -- and its place is one of theirs
  pub home_below : (l : List Living) → homes i l ≡ 1 → home_of i l < length l
  home_below [] o = absurd (omega (arith, homes-nil))
  home_below (g ∷ l) o = ⊎_elim
      (λ (z : times i g.origins ≡ 0). rw (home-later g l z) (omega (arith, home_below l (omega (arith, homes-cons g l)))))
      (λ n. rw (home_here g l (omega (arith, homes-cons g l))) (omega arith))
      (same_or_not (times i g.origins) 0)
