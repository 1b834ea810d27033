-- The first set that fails. Assumes nothing.
use mathlib.Core.Path.{◌≡◌, refl, sym, ap, ◌∙◌}
use mathlib.Core.Bool.{Bool, true, false}
use mathlib.Core.Logic.{⊎_elim}
use Prim.Native.Nat.{ℕ, zero, suc, ◌+◌, ◌≤◌, ◌<◌}
use native.Mathlib.Omega.{arith}
use Rattle.laws.proofs.Cases.{lt-or-ge, Which, which}
use Rattle.laws.proofs.Cases.Which.{holds, fails}
use Rattle.judging.specs.Answers.{Right, WrongSet, WrongStore}
use Rattle.judging.specs.Judge.{first_failing}

module _ (given : ℕ → Bool) where
  step-on : (left k : ℕ) → given k ≡ true → first_failing given (suc left) k ≡ first_failing given left (suc k)
  unfolding first_failing
  step-on left k h = rw h

  step-stop : (left k : ℕ) → given k ≡ false → first_failing given (suc left) k ≡ WrongSet k
  unfolding first_failing
  step-stop left k h = rw h

  step_end : (k : ℕ) → first_failing given zero k ≡ Right
  unfolding first_failing
  step_end k = refl

  -- all are given
  pub all_right : (left k : ℕ) → ((j : ℕ) → k ≤ j → j < k + left → given j ≡ true) → first_failing given left k ≡ Right
  all_right zero k h = step_end k
  all_right (suc left) k h = step-on left k (h k (omega arith) (omega arith)) ∙ all_right left (suc k) (λ j a b. h j (omega arith) (omega arith))

  -- those before r are, and r is not
  pub first-wrong : (left k r : ℕ) → k ≤ r → r < k + left → ((j : ℕ) → k ≤ j → j < r → given j ≡ true) → given r ≡ false → first_failing given left k ≡ WrongSet r
  first-wrong zero k r a b h f = absurd (omega arith)
  first-wrong (suc left) k r a b h f = ⊎_elim
      (λ (l : k < r). step-on left k (h k (omega arith) l) ∙ first-wrong left (suc k) r (omega arith) (omega arith) (λ j c d. h j (omega arith) d) f)
      (λ (l : r ≤ k). let z : r ≡ k = omega arith in step-stop left k (rw z at f) ∙ ap WrongSet (sym z))
      (lt-or-ge k r)

  -- ---- and what an answer says

  right-all : (left k : ℕ) → first_failing given left k ≡ Right → (j : ℕ) → k ≤ j → j < k + left → given j ≡ true
  right-all zero k e j a b = absurd (omega arith)
  right-all (suc left) k e j a b = go (which (given k)) (right-all left (suc k))
    where
      go : Which (given k) → (first_failing given left (suc k) ≡ Right → (j : ℕ) → suc k ≤ j → j < suc k + left → given j ≡ true) → given j ≡ true
      go (holds h) rec = ⊎_elim
          (λ (l : k < j). rec (sym (step-on left k h) ∙ e) j (omega arith) (omega arith))
          (λ (l : j ≤ k). let z : j ≡ k = omega arith in rw z h)
          (lt-or-ge k j)
      go (fails h) rec = let f : WrongSet k ≡ Right = sym (step-stop left k h) ∙ e in let z : ◌≡◌ {A = ℕ} 0 1 = cc in absurd (omega arith)

  pub right-given : (n : ℕ) → first_failing given n 0 ≡ Right → (j : ℕ) → j < n → given j ≡ true
  right-given n e j h = right-all n 0 e j (omega arith) (omega arith)

  -- a set that an answer names
  pub record Named (left k r : ℕ) : Type 0 where
    pub from : k ≤ r
    pub within : r < k + left
    pub earlier : (j : ℕ) → k ≤ j → j < r → given j ≡ true
    pub not-given : given r ≡ false

  pub wrong_first : (left k r : ℕ) → first_failing given left k ≡ WrongSet r → Named left k r
  wrong_first zero k r e = let f : Right ≡ WrongSet r = sym (step_end k) ∙ e in let z : ◌≡◌ {A = ℕ} 0 1 = cc in absurd (omega arith)
  wrong_first (suc left) k r e = go (which (given k)) (wrong_first left (suc k) r)
    where
      go : Which (given k) → (first_failing given left (suc k) ≡ WrongSet r → Named left (suc k) r) → Named (suc left) k r
      go (holds h) rec =
          let a = rec (sym (step-on left k h) ∙ e) in
          record {
            from = omega (arith, a.from);
            within = omega (arith, a.within);
            earlier = λ j b c. ⊎_elim (λ (l : k < j). a.earlier j (omega arith) c) (λ (l : j ≤ k). let z : j ≡ k = omega arith in rw z h) (lt-or-ge k j);
            not-given = a.not-given;
          }
      go (fails h) rec =
          let f : WrongSet k ≡ WrongSet r = sym (step-stop left k h) ∙ e in
          let z : k ≡ r = cc in
          record { from = omega arith; within = omega arith; earlier = λ j b c. absurd (omega arith); not-given = (rw z at h) }

  pub never-store : (left k : ℕ) → first_failing given left k ≡ WrongStore → ⊥
  never-store zero k e = let f : Right ≡ WrongStore = sym (step_end k) ∙ e in let z : ◌≡◌ {A = ℕ} 0 1 = cc in omega arith
  never-store (suc left) k e = go (which (given k)) (never-store left (suc k))
    where
      go : Which (given k) → (first_failing given left (suc k) ≡ WrongStore → ⊥) → ⊥
      go (holds h) rec = rec (sym (step-on left k h) ∙ e)
      go (fails h) rec = let f : WrongSet k ≡ WrongStore = sym (step-stop left k h) ∙ e in let z : ◌≡◌ {A = ℕ} 0 1 = cc in omega arith
