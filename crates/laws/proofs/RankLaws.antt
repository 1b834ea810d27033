-- The numbers that pass a test, in their order: the place of one is how many pass below it, its rank. Assumes nothing.
use mathlib.Core.Path.{◌≡◌, refl, ap, ◌∙◌}
use mathlib.Core.Bool.{Bool, true, false}
use mathlib.Core.List.{[], ◌∷◌, ◌++◌}
use mathlib.Core.Logic.{◌⊎◌, inl, inr}
use Prim.Native.Nat.{ℕ, zero, suc, ◌+◌, ◌-◌, ◌≤◌, ◌<◌}
use native.Mathlib.Nat.{add-zero}
use native.Mathlib.Numerals.{add-one}
use native.Mathlib.Omega.{arith}
use lib.ListN.{length, get_or, length-append, get_or-append}
use lib.Seq.{get_or_at}
use Rattle.laws.specs.Bounded.{tabulate, up_to}
use Rattle.laws.specs.Sorting.{keep, rank}
use Rattle.laws.proofs.Cases.{lt-or-ge, Which, which, Tri, tri}
use Rattle.laws.proofs.Cases.Which.{holds, fails}
use Rattle.laws.proofs.Cases.Tri.{below, same, above}
use Rattle.laws.proofs.EveryLaws.{all-imp}
use Rattle.laws.proofs.SortLaws.{keep_append, keep-yes, keep-not}
use Rattle.laws.proofs.SortMap.{keep-every}
use Rattle.laws.proofs.UpLaws.{up-long, up-all, up-snoc}

module _ (p : ℕ → Bool) where
  step_in : (r : ℕ) → p r ≡ true → keep p (up_to (r + 1)) ≡ keep p (up_to r) ++ (r ∷ [])
  step_in r e = rw (up-snoc r, keep_append p (up_to r) (r ∷ []), keep-yes p r e)

  step-out : (r : ℕ) → p r ≡ false → keep p (up_to (r + 1)) ≡ keep p (up_to r) ++ []
  step-out r e = rw (up-snoc r, keep_append p (up_to r) (r ∷ []), keep-not p r e)

  pub rank-in : (r : ℕ) → p r ≡ true → rank p (r + 1) ≡ rank p r + 1
  rank-in r e = ap length (step_in r e) ∙ length-append (keep p (up_to r)) (r ∷ [])

  pub rank-out : (r : ℕ) → p r ≡ false → rank p (r + 1) ≡ rank p r
  rank-out r e = ap length (step-out r e) ∙ length-append (keep p (up_to r)) [] ∙ omega arith

  rank-next : (r : ℕ) → (rank p r ≤ rank p (r + 1)) × (rank p (r + 1) ≤ rank p r + 1)
  rank-next r = go (which (p r))
    where
      go : Which (p r) → (rank p r ≤ rank p (r + 1)) × (rank p (r + 1) ≤ rank p r + 1)
      go (holds t) = (omega (arith, rank-in r t), omega (arith, rank-in r t))
      go (fails t) = (omega (arith, rank-out r t), omega (arith, rank-out r t))

  rank-add : (r d : ℕ) → rank p r ≤ rank p (r + d)
  rank-add r zero = rw add-zero (omega arith)
  rank-add r (suc d) =
      let e : r + suc d ≡ r + d + 1 = omega arith in
      rw e (omega (arith, rank-add r d, (rank-next (r + d)).0))

  rank-none : rank p 0 ≡ 0
  unfolding keep tabulate
  rank-none = refl

  pub rank_most : (r : ℕ) → rank p r ≤ r
  rank_most zero = omega (arith, rank-none)
  rank_most (suc r) = rw (← add-one) (omega (arith, rank_most r, (rank-next r).1))

  pub rank_less : (r q : ℕ) → p r ≡ true → r < q → rank p r < rank p q
  rank_less r q t h =
      let e : r + 1 + (q - (r + 1)) ≡ q = omega arith in
      let m : rank p (r + 1) ≤ rank p q = rw e at (rank-add (r + 1) (q - (r + 1))) in
      omega (arith, rank-in r t)

  pub rank_same : (r q : ℕ) → p r ≡ true → p q ≡ true → rank p r ≡ rank p q → r ≡ q
  rank_same r q a b e = go (tri r q)
    where
      go : Tri r q → r ≡ q
      go (same x) = x
      go (below x) = absurd (omega (arith, rank_less r q a x))
      go (above x) = absurd (omega (arith, rank_less q r b x))

  pub rank-every : (n : ℕ) → ((k : ℕ) → k < n → p k ≡ true) → rank p n ≡ n
  rank-every n h = ap length (keep-every p (up_to n) (all-imp h (up_to n) (up-all n))) ∙ up-long n

  -- each new place is that of one
  pub rank-onto : (n j : ℕ) → j < rank p n → (k : ℕ) × (k < n) × (p k ≡ true) × (rank p k ≡ j)
  rank-onto zero j h = absurd (omega (arith, rank_most 0))
  rank-onto (suc n) j h = go (rank-onto n j) (which (p n)) (lt-or-ge j (rank p n)) (rw (add-one n) h)
    where
      go : (j < rank p n → (k : ℕ) × (k < n) × (p k ≡ true) × (rank p k ≡ j)) → Which (p n) → (j < rank p n) ⊎ (rank p n ≤ j) → j < rank p (n + 1)
          → (k : ℕ) × (k < suc n) × (p k ≡ true) × (rank p k ≡ j)
      go rec w (inl l) b = let a = rec l in (a.0, omega (arith, a.1), a.2, a.3)
      go rec (holds t) (inr l) b = (n, omega arith, t, omega (arith, rank-in n t))
      go rec (fails t) (inr l) b = absurd (omega (arith, rank-out n t))

  pub kept_at : (n k : ℕ) → k < n → p k ≡ true → get_or (keep p (up_to n)) (rank p k) 0 ≡ k
  kept_at zero k h t = absurd (omega arith)
  kept_at (suc n) k h t = rw (← add-one) (go (kept_at n k) (lt-or-ge k n) (which (p n)))
    where
      go : (k < n → p k ≡ true → get_or (keep p (up_to n)) (rank p k) 0 ≡ k) → (k < n) ⊎ (n ≤ k) → Which (p n) → get_or (keep p (up_to (n + 1))) (rank p k) 0 ≡ k
      go rec (inl l) (holds e) = rw (step_in n e) (get_or-append (keep p (up_to n)) (n ∷ []) 0 (rank p k) (rank_less k n t l) ∙ rec l t)
      go rec (inl l) (fails e) = rw (step-out n e) (get_or-append (keep p (up_to n)) [] 0 (rank p k) (rank_less k n t l) ∙ rec l t)
      go rec (inr l) w =
          let z : k ≡ n = omega arith in
          let e : p n ≡ true = rw z at t in
          rw (step_in n e, z) (get_or_at (keep p (up_to n)) n [] 0 (rank p n) refl)
