-- Two results of one promise: with one frame and the same words inside it they are equal. Assumes nothing.
use mathlib.Core.Path.{◌≡◌, sym, ap, ◌∙◌}
use mathlib.Core.List.{List, [], ◌∷◌}
use mathlib.Core.Logic.{⊎_elim}
use Prim.Native.Nat.{ℕ, ◌+◌, ◌-◌, ◌*◌, ◌/◌, ◌<◌}
use native.Mathlib.Omega.{arith}
use lib.ListN.{get_or}
use lib.Seq.{ext_get_or}
use Rattle.laws.specs.LentRange.{Only, seg, Zeroed}
use Rattle.laws.proofs.Cases.{lt-or-ge, same_or_not}
use Rattle.laws.proofs.RangeLaws.{get_or-seg}

-- both have the frame: they differ inside it alone
pub only-both : {rs : List (ℕ × ℕ)} {old u v : List ℕ} → Only rs old u → Only rs old v → Only rs u v
only-both p q = record { long = q.long ∙ sym p.long; kept = λ k o. q.kept k o ∙ sym (p.kept k o) }

-- its first range holds the same words: they differ in the others alone
pub only_same : {rs : List (ℕ × ℕ)} {u v : List ℕ} {a n : ℕ} → Only ((a, n) ∷ rs) u v → ((k : ℕ) → k < n → get_or v (a + k) 0 ≡ get_or u (a + k) 0) → Only rs u v
only_same {rs} {u} {v} {a} {n} p e = record {
  long = p.long;
  kept = λ k o. ⊎_elim
      (λ (l : k < a). p.kept k (record { apart = λ q. omega arith }, o))
      (λ l. ⊎_elim
      (λ (m : k < a + n). let i : a + (k - a) ≡ k = omega arith in rw i at (e (k - a) (omega arith)))
      (λ m. p.kept k (record { apart = λ q. omega arith }, o))
      (lt-or-ge k (a + n)))
      (lt-or-ge k a);
}

pub words_same : (a n : ℕ) (u v : List ℕ) → seg a n v ≡ seg a n u → (k : ℕ) → k < n → get_or v (a + k) 0 ≡ get_or u (a + k) 0
words_same a n u v e k l = sym (get_or-seg a n v k l) ∙ ap (λ (s : List ℕ). get_or s k 0) e ∙ get_or-seg a n u k l

-- no range is left: they are equal
pub only_none : {u v : List ℕ} → Only [] u v → u ≡ v
only_none {u} {v} p = ext_get_or 0 u v (sym p.long) (λ k l. sym (p.kept k tt))

-- one range
pub seg-once : {a n : ℕ} {old u v : List ℕ} → Only ((a, n) ∷ []) old u → Only ((a, n) ∷ []) old v → seg a n u ≡ seg a n v → u ≡ v
seg-once {a} {n} {old} {u} {v} p q e = only_none (only_same (only-both p q) (words_same a n u v (sym e)))

-- one word
pub word_same : (a : ℕ) (u v : List ℕ) → get_or v a 0 ≡ get_or u a 0 → (k : ℕ) → k < 1 → get_or v (a + k) 0 ≡ get_or u (a + k) 0
word_same a u v e k l = let z : a + k ≡ a = omega arith in rw z e

-- rows of three words
pub thirds-same : (a m : ℕ) (u v : List ℕ) → ((p : ℕ) → p < m → get_or v (a + 3 * p) 0 ≡ get_or u (a + 3 * p) 0)
    → ((p : ℕ) → p < m → get_or v (a + 3 * p + 1) 0 ≡ get_or u (a + 3 * p + 1) 0)
    → ((p : ℕ) → p < m → get_or v (a + 3 * p + 2) 0 ≡ get_or u (a + 3 * p + 2) 0)
    → (k : ℕ) → k < 3 * m → get_or v (a + k) 0 ≡ get_or u (a + k) 0
thirds-same a m u v x y z k l = ⊎_elim
    (λ (e : k ≡ 3 * (k / 3)). let i : a + 3 * (k / 3) ≡ a + k = omega arith in rw i at (x (k / 3) (omega arith)))
    (λ d. ⊎_elim
    (λ (e : k ≡ 3 * (k / 3) + 1). let i : a + 3 * (k / 3) + 1 ≡ a + k = omega arith in rw i at (y (k / 3) (omega arith)))
    (λ e. let i : a + 3 * (k / 3) + 2 ≡ a + k = omega arith in rw i at (z (k / 3) (omega arith)))
    (same_or_not k (3 * (k / 3) + 1)))
    (same_or_not k (3 * (k / 3)))

-- words made zeros
pub zeroed-once : {at n : ℕ} {old u v : List ℕ} → Zeroed at n old u → Zeroed at n old v → u ≡ v
zeroed-once p q = only_none (only_same (only-both p.only q.only) (λ k l. q.is k l ∙ sym (p.is k l)))
