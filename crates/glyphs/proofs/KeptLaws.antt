-- Laws of dropped trailing repeats: what is dropped is the last word that stays. Assumes nothing.
use mathlib.Core.Path.{◌≡◌, refl, sym, ap, ◌∙◌}
use mathlib.Core.List.{List}
use mathlib.Core.Logic.{⊎_elim}
use Prim.Native.Nat.{ℕ, zero, suc, ◌-◌, ◌≤◌, ◌<◌}
use native.Mathlib.Omega.{arith}
use lib.Dec.{eqb}
use lib.ListN.{length, get_or}
use borrow.Author.Tests.{eq-eqb, ne_eqb, eqb-true}
use Rattle.laws.proofs.Cases.{Which, which, lt-or-ge}
use Rattle.laws.proofs.Cases.Which.{holds, fails}
use Rattle.glyphs.specs.Packing.{kept_of, count_of}

module _ (ws : List ℕ) where
  same : (n : ℕ) → get_or ws (suc n) 0 ≡ get_or ws n 0 → kept_of ws (suc (suc n)) ≡ kept_of ws (suc n)
  unfolding kept_of
  same n e = rw (eq-eqb _ _ e)

  other : (n : ℕ) → (get_or ws (suc n) 0 ≡ get_or ws n 0 → ⊥) → kept_of ws (suc (suc n)) ≡ suc (suc n)
  unfolding kept_of
  other n d = rw (ne_eqb _ _ d)

  -- ---- the loop

  pub kept_again : (n : ℕ) → 1 < n → get_or ws (n - 1) 0 ≡ get_or ws (n - 2) 0 → kept_of ws n ≡ kept_of ws (n - 1)
  kept_again n h e =
      let a : n ≡ suc (suc (n - 2)) = omega arith in
      let b : n - 1 ≡ suc (n - 2) = omega arith in
      ap (kept_of ws) a ∙ same (n - 2) (sym (ap (λ (k : ℕ). get_or ws k 0) b) ∙ e) ∙ ap (kept_of ws) (sym b)

  pub kept-stop : (n : ℕ) → 1 < n → (get_or ws (n - 1) 0 ≡ get_or ws (n - 2) 0 → ⊥) → kept_of ws n ≡ n
  kept-stop n h d =
      let a : n ≡ suc (suc (n - 2)) = omega arith in
      let b : n - 1 ≡ suc (n - 2) = omega arith in
      ap (kept_of ws) a ∙ other (n - 2) (λ e. d (ap (λ (k : ℕ). get_or ws k 0) b ∙ e)) ∙ sym a

  pub kept-short : (n : ℕ) → n ≤ 1 → kept_of ws n ≡ n
  unfolding kept_of
  kept-short zero h = refl
  kept-short (suc zero) h = refl
  kept-short (suc (suc n)) h = absurd (omega arith)

  -- ---- what stays

  pub kept-most : (n : ℕ) → kept_of ws n ≤ n
  unfolding kept_of
  kept-most zero = omega arith
  kept-most (suc zero) = omega arith
  kept-most (suc (suc n)) = go (kept-most (suc n)) (which (eqb (get_or ws (suc n) 0) (get_or ws n 0)))
    where
      go : kept_of ws (suc n) ≤ suc n → Which (eqb (get_or ws (suc n) 0) (get_or ws n 0)) → kept_of ws (suc (suc n)) ≤ suc (suc n)
      go i (holds h) = rw h (omega arith)
      go i (fails h) = rw h (omega arith)

  pub kept-some : (n : ℕ) → 0 < n → 0 < kept_of ws n
  unfolding kept_of
  kept-some zero h = h
  kept-some (suc zero) h = omega arith
  kept-some (suc (suc n)) h = go (kept-some (suc n) (omega arith)) (which (eqb (get_or ws (suc n) 0) (get_or ws n 0)))
    where
      go : 0 < kept_of ws (suc n) → Which (eqb (get_or ws (suc n) 0) (get_or ws n 0)) → 0 < kept_of ws (suc (suc n))
      go i (holds e) = rw e i
      go i (fails e) = rw e (omega arith)

  -- a word that is dropped is the last that stays
  pub kept_same : (n g : ℕ) → g < n → kept_of ws n ≤ g → get_or ws g 0 ≡ get_or ws (kept_of ws n - 1) 0
  unfolding kept_of
  kept_same zero g h k = absurd (omega arith)
  kept_same (suc zero) g h k = absurd (omega arith)
  kept_same (suc (suc n)) g h k = go (kept_same (suc n)) (which (eqb (get_or ws (suc n) 0) (get_or ws n 0)))
    where
      -- the word before the last
      near : ((j : ℕ) → j < suc n → kept_of ws (suc n) ≤ j → get_or ws j 0 ≡ get_or ws (kept_of ws (suc n) - 1) 0) → get_or ws n 0 ≡ get_or ws (kept_of ws (suc n) - 1) 0
      near i =
          ⊎_elim (λ (l : n < kept_of ws (suc n)). let e : kept_of ws (suc n) - 1 ≡ n = omega (arith, kept-most (suc n)) in rw e)
          (λ l. i n (omega arith) l)
          (lt-or-ge n (kept_of ws (suc n)))

      go : ((j : ℕ) → j < suc n → kept_of ws (suc n) ≤ j → get_or ws j 0 ≡ get_or ws (kept_of ws (suc n) - 1) 0)
          → Which (eqb (get_or ws (suc n) 0) (get_or ws n 0)) → get_or ws g 0 ≡ get_or ws (kept_of ws (suc (suc n)) - 1) 0
      go i (holds e) =
          rw (same n (eqb-true _ _ e))
          (⊎_elim (λ (l : g < suc n). i g l (omega (arith, same n (eqb-true _ _ e))))
          (λ l. let f : g ≡ suc n = omega arith in rw f (eqb-true _ _ e ∙ near i))
          (lt-or-ge g (suc n)))
      go i (fails e) = absurd (omega (arith, (let z : kept_of ws (suc (suc n)) ≡ suc (suc n) = rw e in z)))

-- ---- of a whole list

module _ (ws : List ℕ) where
  pub count_most : count_of ws ≤ length ws
  unfolding count_of
  count_most = kept-most ws (length ws)

  pub count-some : 0 < length ws → 0 < count_of ws
  unfolding count_of
  count-some h = kept-some ws (length ws) h

  pub count_same : (g : ℕ) → g < length ws → count_of ws ≤ g → get_or ws g 0 ≡ get_or ws (count_of ws - 1) 0
  unfolding count_of
  count_same g h k = kept_same ws (length ws) g h k

  -- an answer that is such a number
  pub kept-told : (i : ℕ) → i ≡ count_of ws → {r : ℕ} → r ≡ i → r ≡ count_of ws
  kept-told i k e = e ∙ k
