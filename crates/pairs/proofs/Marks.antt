-- Pairs with two marks: what the test says, and the loop that keeps them. Assumes nothing.
use mathlib.Core.Path.{◌≡◌, refl, sym, ap, ◌∙◌}
use mathlib.Core.Bool.{Bool, true, false}
use mathlib.Core.Logic.{◌⊎◌, inl, inr, ⊎_elim}
use mathlib.Core.List.{List}
use Prim.Native.Nat.{ℕ, ◌+◌, ◌≤◌, ◌<◌}
use native.Mathlib.Omega.{arith}
use lib.Dec.{T, ltb}
use lib.ListN.{get_or}
use borrow.Author.Tests.{lt-ltb, le-ltb, ltb-true}
use Rattle.laws.proofs.Cases.{same_or_not, and-true, true-false}
use Rattle.pairs.specs.declared.Pair.{Pair}
use Rattle.pairs.specs.LentQueue.{pair_at, HeapOrdered, Weight, weight_of, SameFrom, Pushed, both_marked, if_marked}
use Rattle.pairs.proofs.Bag.{total-zero, total-more}

-- ---- the test

module _ (m : List ℕ) (place : ℕ) (p : Pair) where
  -- as the code makes it
  pub not_first : get_or m (place + p.first) 0 ≡ 0 → both_marked m place p ≡ false
  unfolding both_marked
  not_first e = simp (le-ltb 0 (get_or m (place + p.first) 0) (omega arith))

  pub by-second : (get_or m (place + p.first) 0 ≡ 0 → ⊥) → both_marked m place p ≡ ltb 0 (get_or m (place + p.second) 0)
  unfolding both_marked
  by-second d = simp (lt-ltb 0 (get_or m (place + p.first) 0) (omega arith))

  pub both-marked : 0 < get_or m (place + p.first) 0 → 0 < get_or m (place + p.second) 0 → both_marked m place p ≡ true
  both-marked a b = by-second (λ e. omega arith) ∙ lt-ltb 0 (get_or m (place + p.second) 0) b

holds : (b : Bool) → T b → b ≡ true
holds true _ = refl
holds false a = absurd a

-- what its answer says
module _ (m : List ℕ) (place : ℕ) (p : Pair) {b : Bool} (e : b ≡ both_marked m place p) where
  both : T b → (ltb 0 (get_or m (place + p.first) 0) ≡ true) × (ltb 0 (get_or m (place + p.second) 0) ≡ true)
  unfolding both_marked
  both h = and-true (ltb 0 (get_or m (place + p.first) 0)) (ltb 0 (get_or m (place + p.second) 0)) (sym e ∙ holds b h)

  pub marked-first : T b → 0 < get_or m (place + p.first) 0
  marked-first h = ltb-true 0 (get_or m (place + p.first) 0) (both h).0

  pub marked-second : T b → 0 < get_or m (place + p.second) 0
  marked-second h = ltb-true 0 (get_or m (place + p.second) 0) (both h).1

  pub one-unmarked : b ≡ false → (get_or m (place + p.first) 0 ≡ 0) ⊎ (get_or m (place + p.second) 0 ≡ 0)
  one-unmarked f = ⊎_elim
      (λ (z : get_or m (place + p.first) 0 ≡ 0). inl z)
      (λ d. ⊎_elim
      (λ (z : get_or m (place + p.second) 0 ≡ 0). inr z)
      (λ d'. absurd (true-false (both-marked m place p (omega arith) (omega arith)) (sym e ∙ f)))
      (same_or_not (get_or m (place + p.second) 0) 0))
      (same_or_not (get_or m (place + p.first) 0) 0)

-- ---- the loop: of the first i pairs of w₀ those with two marks stand in front of w

pub record Keeping (m : List ℕ) (place : ℕ) (w₀ w : List Pair) (n kept i : ℕ) : Type 0 where
  pub within : i ≤ n
  pub few : kept ≤ i
  pub ordered : HeapOrdered w kept
  pub content : (φ : Weight) → weight_of w kept φ ≡ weight_of w₀ i (if_marked m place φ)
  pub rest : SameFrom w₀ kept w

pub keeping_start : (m : List ℕ) (place : ℕ) (w : List Pair) (n : ℕ) → Keeping m place w w n 0 0
keeping_start m place w n = record {
  within = omega arith;
  few = omega arith;
  ordered = λ k l q. absurd (omega arith);
  content = λ φ. total-zero w φ ∙ sym (total-zero w (if_marked m place φ));
  rest = λ k l. refl;
}

counts : (m : List ℕ) (place : ℕ) (φ : Weight) (p : Pair) → both_marked m place p ≡ true → if_marked m place φ p ≡ φ p
unfolding if_marked
counts m place φ p e = rw e

counts-not : (m : List ℕ) (place : ℕ) (φ : Weight) (p : Pair) → both_marked m place p ≡ false → if_marked m place φ p ≡ 0
unfolding if_marked
counts-not m place φ p e = rw e

module _ {m : List ℕ} {place : ℕ} {w₀ w : List Pair} {n kept i : ℕ} (s : Keeping m place w₀ w n kept i) where
  module _ {p : Pair} (l : i < n) (e : p ≡ pair_at w i) where
    is_read : pair_at w₀ i ≡ p
    is_read = sym (s.rest i s.few) ∙ sym e

    module _ {b : Bool} (q : b ≡ both_marked m place p) where
      pub keeping-drops : b ≡ false → Keeping m place w₀ w n kept (i + 1)
      keeping-drops f = record {
        within = omega arith;
        few = omega (arith, s.few);
        ordered = s.ordered;
        content = λ φ.
            let none : if_marked m place φ (pair_at w₀ i) ≡ 0 = ap (if_marked m place φ) is_read ∙ counts-not m place φ p (sym q ∙ f) in
            omega (arith, s.content φ, total-more w₀ i (if_marked m place φ));
        rest = s.rest;
      }

      pub keeping-keeps : {w' : List Pair} {r : ℕ} → b ≡ true → r ≡ kept + 1 → Pushed w kept p w' → Keeping m place w₀ w' n r (i + 1)
      keeping-keeps f c u = rw c (record {
        within = omega arith;
        few = omega (arith, s.few);
        ordered = u.ordered;
        content = λ φ.
            let own : if_marked m place φ (pair_at w₀ i) ≡ φ p = ap (if_marked m place φ) is_read ∙ counts m place φ p (sym q ∙ f) in
            omega (arith, s.content φ, u.content φ, total-more w₀ i (if_marked m place φ));
        rest = λ k h. u.rest k h ∙ s.rest k (omega arith);
      })
