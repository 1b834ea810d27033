-- Sorted words moved up over repeats. Assumes nothing.
use mathlib.Core.Path.{◌≡◌, refl, sym, ◌∙◌}
use mathlib.Core.Bool.{Bool, true, false, not, ◌||◌}
use mathlib.Core.List.{List, [], ◌∷◌}
use mathlib.Core.Logic.{⊎_elim}
use Prim.Native.Nat.{ℕ, ◌+◌, ◌-◌, ◌≤◌, ◌<◌}
use native.Mathlib.Omega.{arith}
use lib.Dec.{eqb}
use lib.ListN.{length, get_or, set}
use lib.Seq.{get_or-set_same, get_or-set_other}
use borrow.Author.Tests.{eqb-true, eqb-false, not-true, not-false}
use Rattle.laws.specs.LentRange.{Only}
use Rattle.laws.proofs.Cases.{or_cases, lt-or-ge}
use Rattle.laws.proofs.RangeLaws.{only-trans, only_set}
use Rattle.choosing.specs.Lent.{InOrder, Within, is_new, Once}

pub new_is : (w : List ℕ) (k i : ℕ) → is_new w k i ≡ true → 0 < k → get_or w (k - 1) 0 ≡ get_or w i 0 → ⊥
unfolding is_new
new_is w k i h p e = ⊎_elim
    (λ (z : eqb k 0 ≡ true). omega (arith, eqb-true k 0 z))
    (λ z. eqb-false (get_or w (k - 1) 0) (get_or w i 0) (not-true (eqb (get_or w (k - 1) 0) (get_or w i 0)) z) e)
    (or_cases (eqb k 0) (not (eqb (get_or w (k - 1) 0) (get_or w i 0))) h)

pub or_no : (a b : Bool) → a || b ≡ false → (a ≡ false) × (b ≡ false)
or_no true b h = let z : ◌≡◌ {A = ℕ} 0 1 = cc in absurd (omega arith)
or_no false b h = (refl, h)

pub old-is : (w : List ℕ) (k i : ℕ) → is_new w k i ≡ false → (0 < k) × (get_or w (k - 1) 0 ≡ get_or w i 0)
unfolding is_new
old-is w k i h =
    let a = or_no (eqb k 0) (not (eqb (get_or w (k - 1) 0) (get_or w i 0))) h in
    let d = eqb-false k 0 a.0 in
    (omega arith, eqb-true (get_or w (k - 1) 0) (get_or w i 0) (not-false (eqb (get_or w (k - 1) 0) (get_or w i 0)) a.1))

-- the first i words were looked at, and k of them kept
pub record Moving (n : ℕ) (old new : List ℕ) (k i : ℕ) : Type 0 where
  pub within : i ≤ n
  pub fewer : k ≤ i
  pub only : Only ((0, n) ∷ []) old new
  pub later : (j : ℕ) → i ≤ j → j < n → get_or new j 0 ≡ get_or old j 0
  pub rising : (a b : ℕ) → a < b → b < k → get_or new a 0 < get_or new b 0
  pub last : 0 < i → (0 < k) × (get_or new (k - 1) 0 ≡ get_or old (i - 1) 0)
  pub from : (a : ℕ) → a < k → Within i old (get_or new a 0)
  pub into : (j : ℕ) → j < i → Within k new (get_or old j 0)

module _ {n : ℕ} {old : List ℕ} where
  module _ (room : n ≤ length old) (o : InOrder n old) {new : List ℕ} {k i : ℕ} (m : Moving n old new k i) (h : i < n) where
    abbrev v : ℕ
    v = get_or new i 0

    abbrev next : List ℕ
    next = set new k v

    v-is : v ≡ get_or old i 0
    v-is = m.later i (omega arith) h

    there : k < length new
    there = omega (arith, m.fewer, m.only.long)

    at-k : get_or next k 0 ≡ v
    at-k = get_or-set_same new k v 0 there

    other : (j : ℕ) → (j ≡ k → ⊥) → get_or next j 0 ≡ get_or new j 0
    other j d = get_or-set_other new k j v 0 d

    -- what was kept is below a new word
    below : is_new new k i ≡ true → (a : ℕ) → a < k → get_or new a 0 < v
    below e a l =
        let s = m.last (omega (arith, m.fewer)) in
        let q = o.at_most (i - 1) i (omega (arith, m.fewer)) h in
        let d = new_is new k i e (omega arith) in
        let c : get_or new (k - 1) 0 < v = omega (arith, s.1, v-is) in
        ⊎_elim
        (λ (p : a < k - 1). omega (arith, m.rising a (k - 1) p (omega arith)))
        (λ (p : k - 1 ≤ a). let e2 : a ≡ k - 1 = omega arith in rw e2 c)
        (lt-or-ge a (k - 1))

    pub once-new : is_new new k i ≡ true → Moving n old next (k + 1) (i + 1)
    once-new e = record {
      within = omega arith;
      fewer = omega (arith, m.fewer);
      only = only-trans m.only (only_set ((0, n) ∷ []) new k v (λ x. omega (arith, x.0.apart (omega (arith, m.fewer)), m.fewer)));
      later = λ j p q. other j (omega (arith, m.fewer)) ∙ m.later j (omega arith) q;
      rising = λ a b p q. ⊎_elim
          (λ (l : b < k). omega (arith, other a (omega arith), other b (omega arith), m.rising a b p l))
          (λ (l : k ≤ b). let z : b ≡ k = omega arith in rw z (omega (arith, other a (omega arith), at-k, below e a (omega arith))))
          (lt-or-ge b k);
      last = λ p. (omega arith, let z : k + 1 - 1 ≡ k = omega arith in let y : i + 1 - 1 ≡ i = omega arith in rw (z, y) (at-k ∙ v-is));
      from = λ a p. ⊎_elim
          (λ (l : a < k). let w = m.from a l in (w.0, omega (arith, w.1), w.2 ∙ sym (other a (omega arith))))
          (λ (l : k ≤ a). let z : a ≡ k = omega arith in (i, omega arith, rw z (sym v-is ∙ sym at-k)))
          (lt-or-ge a k);
      into = λ j p. ⊎_elim
          (λ (l : j < i). let w = m.into j l in (w.0, omega (arith, w.1), other w.0 (omega (arith, w.1)) ∙ w.2))
          (λ (l : i ≤ j). let z : j ≡ i = omega arith in (k, omega arith, rw z (at-k ∙ v-is)))
          (lt-or-ge j i);
    }

    pub once-old : is_new new k i ≡ false → Moving n old new k (i + 1)
    once-old e =
        let s = old-is new k i e in
        record {
          within = omega arith;
          fewer = omega (arith, m.fewer);
          only = m.only;
          later = λ j p q. m.later j (omega arith) q;
          rising = m.rising;
          last = λ p. (s.0, let y : i + 1 - 1 ≡ i = omega arith in rw y (s.1 ∙ v-is));
          from = λ a p. let w = m.from a p in (w.0, omega (arith, w.1), w.2);
          into = λ j p. ⊎_elim
              (λ (l : j < i). m.into j l)
              (λ (l : i ≤ j). let z : j ≡ i = omega arith in (k - 1, omega (arith, s.0), rw z (s.1 ∙ v-is)))
              (lt-or-ge j i);
        }

  pub once-done : {new : List ℕ} {k i : ℕ} → Moving n old new k i → n ≤ i → Once n old new k
  once-done {new} {k} {i} m h = record {
    most = omega (arith, m.within, m.fewer);
    only = m.only;
    rising = record { up = m.rising };
    from = λ a p. let w = m.from a p in (w.0, omega (arith, w.1, m.within), w.2);
    into = λ j p. m.into j (omega arith);
  }
