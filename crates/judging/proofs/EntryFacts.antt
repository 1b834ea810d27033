-- Entries by their places: regions below a bound, no zeros, and the word of each. Assumes nothing.
use mathlib.Core.Path.{◌≡◌, refl, ap, ◌∙◌}
use mathlib.Core.List.{List, ◌∷◌}
use Prim.Native.Nat.{ℕ, zero, suc, ◌+◌, ◌-◌, ◌*◌, ◌≤◌, ◌<◌}
use native.Mathlib.Omega.{arith}
use lib.ListN.{get_or}
use Rattle.laws.specs.Signed.{zero_word}
use Rattle.sets.specs.Set.{word_of, Ascending, Proper}
use Rattle.sets.specs.Lent.{entries}
use Rattle.sets.proofs.SetLaws.{entries-cons, word-head, word-tail}

module _ (w : List ℕ) where
  cons : (x n : ℕ) → entries x (suc n) w ≡ (get_or w x 0, get_or w (x + 1) 0) ∷ entries (x + 2) n w
  cons x n =
      let z : suc n - 1 ≡ n = omega arith in
      entries-cons x (suc n) w (omega arith) ∙ ap (λ (m : ℕ). (get_or w x 0, get_or w (x + 1) 0) ∷ entries (x + 2) m w) z

  move : (x i : ℕ) → x + 2 + 2 * i ≡ x + 2 * suc i
  move x i = omega arith

  here : (x : ℕ) → x + 2 * 0 ≡ x
  here x = omega arith

  pub entry-proper : (bound n x i : ℕ) → Proper bound (entries x n w) → i < n → (get_or w (x + 2 * i + 1) 0 ≡ zero_word → ⊥) × (get_or w (x + 2 * i) 0 < bound)
  entry-proper bound zero x i p h = (absurd (omega arith), absurd (omega arith))
  entry-proper bound (suc n) x zero p h = let q = rw (cons x n) at p in rw (here x) q.0
  entry-proper bound (suc n) x (suc i) p h = let q = rw (cons x n) at p in rw (← move x i) (entry-proper bound n (x + 2) i q.1 (omega arith))

  entry-low : (t n x i : ℕ) → Ascending t (entries x n w) → i < n → t ≤ get_or w (x + 2 * i) 0
  entry-low t zero x i p h = absurd (omega arith)
  entry-low t (suc n) x zero p h = let q = rw (cons x n) at p in rw (here x) q.0
  entry-low t (suc n) x (suc i) p h =
      let q = rw (cons x n) at p in
      let r = entry-low (suc (get_or w x 0)) n (x + 2) i q.1 (omega arith) in
      let a = q.0 in
      rw (← move x i) (omega arith)

  -- the word of an entry's region is the entry's
  pub entry-word : (t n x i : ℕ) → Ascending t (entries x n w) → i < n → word_of (entries x n w) (get_or w (x + 2 * i) 0) ≡ get_or w (x + 2 * i + 1) 0
  entry-word t zero x i p h = absurd (omega arith)
  entry-word t (suc n) x zero p h = rw (here x, cons x n) (word-head (get_or w x 0, get_or w (x + 1) 0) (entries (x + 2) n w) (get_or w x 0) refl)
  entry-word t (suc n) x (suc i) p h =
      let q = rw (cons x n) at p in
      let low = entry-low (suc (get_or w x 0)) n (x + 2) i q.1 (omega arith) in
      rw (cons x n, ← move x i)
      (word-tail (get_or w x 0, get_or w (x + 1) 0) (entries (x + 2) n w) (get_or w (x + 2 + 2 * i) 0) (λ e. omega arith)
      ∙ entry-word (suc (get_or w x 0)) n (x + 2) i q.1 (omega arith))
