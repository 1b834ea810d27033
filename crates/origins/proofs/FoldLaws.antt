-- What a list gives does not depend on its order, where it does not matter which of two elements is taken first. Assumes nothing.
use mathlib.Core.Path.{◌≡◌, refl, sym, ap, ◌∙◌}
use mathlib.Core.List.{List, [], ◌∷◌}
use mathlib.Core.Logic.{⊎_elim}
use Prim.Native.Nat.{ℕ, ◌+◌, ◌<◌}
use native.Mathlib.Omega.{arith}
use lib.Dec.{eqb}
use borrow.Author.Tests.{eq-eqb, ne_eqb}
use Rattle.laws.specs.Pick.{pick, one_if}
use Rattle.laws.specs.Bag.{weigh}
use Rattle.laws.proofs.Cases.{same_or_not}
use Rattle.rule.proofs.Origins.{times}

-- a list without the first i in it
unfoldable without : ℕ → List ℕ → List ℕ
without i [] = []
without i (j ∷ l) = pick (eqb i j) l (j ∷ without i l)

times-cons : (i j : ℕ) (l : List ℕ) → times i (j ∷ l) ≡ one_if (eqb i j) + times i l
unfolding times weigh
times-cons i j l = refl

times-self : (i : ℕ) (l : List ℕ) → times i (i ∷ l) ≡ 1 + times i l
times-self i l = times-cons i i l ∙ rw (eq-eqb i i refl)

times-other : (i j : ℕ) (l : List ℕ) → (i ≡ j → ⊥) → times i (j ∷ l) ≡ times i l
times-other i j l d = let t = rw (ne_eqb i j d) at (times-cons i j l) in omega (arith, t)

times-nil : (i : ℕ) → times i [] ≡ 0
unfolding times weigh
times-nil i = refl

times-without : (i j : ℕ) (l : List ℕ) → 0 < times i l → times j l ≡ one_if (eqb j i) + times j (without i l)
unfolding without
times-without i j [] h = absurd (omega (arith, times-nil i))
times-without i j (k ∷ l) h = ⊎_elim
    (λ (e : i ≡ k). rw (eq-eqb i k e) (times-cons j k l ∙ ap (λ (m : ℕ). one_if (eqb j m) + times j l) (sym e)))
    (λ d. rw (ne_eqb i k d) (let r = times-without i j l (omega (arith, times-other i k l d)) in omega (arith, times-cons j k l, times-cons j k (without i l))))
    (same_or_not i k)

module _ {A : Type 0} (F : List ℕ → A) (op : ℕ → A → A) (step : (i : ℕ) (l : List ℕ) → F (i ∷ l) ≡ op i (F l))
    (turn : (i j : ℕ) (x : A) → op i (op j x) ≡ op j (op i x)) where
  taken : (i : ℕ) (l : List ℕ) → 0 < times i l → F l ≡ op i (F (without i l))
  unfolding without
  taken i [] h = absurd (omega (arith, times-nil i))
  taken i (j ∷ l) h = ⊎_elim
      (λ (e : i ≡ j). rw (eq-eqb i j e) (step j l ∙ ap (λ (k : ℕ). op k (F l)) (sym e)))
      (λ d. rw (ne_eqb i j d)
      (step j l
      ∙ ap (op j) (taken i l (omega (arith, times-other i j l d)))
      ∙ turn j i (F (without i l))
      ∙ ap (op i) (sym (step j (without i l)))))
      (same_or_not i j)

  -- two lists that hold the same numbers, each as often
  pub fold_same : (l m : List ℕ) → ((i : ℕ) → times i l ≡ times i m) → F l ≡ F m
  fold_same [] [] e = refl
  fold_same [] (j ∷ m) e = absurd (omega (arith, e j, times-nil j, times-self j m))
  fold_same (i ∷ l) m e =
      let p : 0 < times i m = omega (arith, e i, times-self i l) in
      step i l
      ∙ ap (op i) (fold_same l (without i m) (λ j. omega (arith, e j, times-cons j i l, times-without i j m p)))
      ∙ sym (taken i m p)
