-- The words of a set before and after one more value. Assumes nothing.
use mathlib.Core.Path.{◌≡◌, refl, sym, ◌∙◌}
use mathlib.Core.List.{[], ◌∷◌}
use Prim.Native.Nat.{ℕ}
use lib.Dec.{eqb, ltb}
use borrow.Author.Tests.{eq-eqb, eqb-true}
use Rattle.laws.specs.Pick.{pick}
use Rattle.laws.specs.Every.{All}
use Rattle.laws.specs.Signed.{zero_word}
use Rattle.laws.proofs.Cases.{Which, which, true-false}
use Rattle.laws.proofs.Cases.Which.{holds, fails}
use Rattle.sets.specs.Set.{Set, word_of}
use Rattle.sets.proofs.SetLaws.{word-head, word-tail}
use Rattle.said.specs.Sets.{with_entry, with_value}

pub placed-other : (k w r : ℕ) (b : Set) → (k ≡ r → ⊥) → word_of (with_entry k w b) r ≡ word_of b r
unfolding with_entry
placed-other k w r [] d = word-tail (k, w) [] r d
placed-other k w r (e ∷ b) d = go (placed-other k w r b d) (which (ltb k e.0)) (which (eqb e.0 r))
  where
    go : word_of (with_entry k w b) r ≡ word_of b r → Which (ltb k e.0) → Which (eqb e.0 r) → word_of (pick (ltb k e.0) ((k, w) ∷ e ∷ b) (e ∷ with_entry k w b)) r ≡ word_of (e ∷ b) r
    go rec (holds l) t = rw l (word-tail (k, w) (e ∷ b) r d)
    go rec (fails l) (holds t) = rw l (word-head e (with_entry k w b) r (eqb-true e.0 r t) ∙ sym (word-head e b r (eqb-true e.0 r t)))
    go rec (fails l) (fails t) =
        let n : e.0 ≡ r → ⊥ = λ q. true-false (eq-eqb e.0 r q) t in
        rw l (word-tail e (with_entry k w b) r n ∙ rec ∙ sym (word-tail e b r n))

placed-here : (k w : ℕ) (b : Set) → All (λ e. e.0 ≡ k → ⊥) b → word_of (with_entry k w b) k ≡ w
unfolding with_entry
placed-here k w [] d = word-head (k, w) [] k refl
placed-here k w (e ∷ b) d = go (placed-here k w b d.1) (which (ltb k e.0))
  where
    go : word_of (with_entry k w b) k ≡ w → Which (ltb k e.0) → word_of (pick (ltb k e.0) ((k, w) ∷ e ∷ b) (e ∷ with_entry k w b)) k ≡ w
    go rec (holds l) = rw l (word-head (k, w) (e ∷ b) k refl)
    go rec (fails l) = rw l (word-tail e (with_entry k w b) k d.0 ∙ rec)

word_none : (k : ℕ) (b : Set) → All (λ e. e.0 ≡ k → ⊥) b → word_of b k ≡ zero_word
unfolding word_of
word_none k [] d = refl
word_none k (e ∷ b) d = word-tail e b k d.0 ∙ word_none k b d.1

pub with-other : (k w r : ℕ) (b : Set) → (k ≡ r → ⊥) → word_of (with_value k w b) r ≡ word_of b r
unfolding with_value
with-other k w r b d = go (which (eqb w zero_word))
  where
    go : Which (eqb w zero_word) → word_of (pick (eqb w zero_word) b (with_entry k w b)) r ≡ word_of b r
    go (holds e) = rw e
    go (fails e) = rw e (placed-other k w r b d)

pub with-here : (k w : ℕ) (b : Set) → All (λ e. e.0 ≡ k → ⊥) b → word_of (with_value k w b) k ≡ w
unfolding with_value
with-here k w b d = go (which (eqb w zero_word))
  where
    go : Which (eqb w zero_word) → word_of (pick (eqb w zero_word) b (with_entry k w b)) k ≡ w
    go (holds e) = rw e (word_none k b d ∙ sym (eqb-true w zero_word e))
    go (fails e) = rw e (placed-here k w b d)
