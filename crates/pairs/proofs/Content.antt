-- What a client reads off `content`: which pairs are there, before and after. Assumes nothing.
use mathlib.Core.Path.{◌≡◌, refl, sym, ap, ◌∙◌}
use mathlib.Core.Bool.{Bool, true, false}
use mathlib.Core.Logic.{◌≢◌, ◌⊎◌, inl, inr, ⊎_elim}
use mathlib.Core.List.{List}
use Prim.Native.Nat.{ℕ, zero, suc, ◌+◌, ◌-◌, ◌≤◌, ◌<◌}
use native.Mathlib.Nat.{not-suc-le-zero}
use native.Mathlib.Omega.{arith}
use lib.Dec.{eqb}
use lib.ListN.{get_or}
use borrow.Author.Tests.{eq-eqb, eqb-true}
use Rattle.pairs.specs.declared.Pair.{Pair}
use Rattle.laws.specs.Bag.{sum}
use Rattle.laws.specs.Pick.{pick}
use Rattle.laws.proofs.Cases.{same_or_not}
use Rattle.pairs.specs.LentQueue.{pair_at, AtLeast, Weight, weight_of, Has, Heaped, Pushed, Popped, both_marked, if_marked, KeptMarked}
use Rattle.pairs.proofs.Order.{carry}
use Rattle.pairs.proofs.Sets.{Put}
use Rattle.pairs.proofs.Marks.{both-marked}

-- ---- the weight that counts one pair

unfoldable pub is : Pair → Weight
is p q = pick (eqb p.gain q.gain) (pick (eqb p.first q.first) (pick (eqb p.second q.second) 1 0) 0) 0

picked : (b : Bool) (x : ℕ) → 0 < pick b x 0 → (b ≡ true) × (0 < x)
picked true x h = (refl, h)
picked false x h = absurd (not-suc-le-zero h)

pub is-self : (p : Pair) → is p p ≡ 1
unfolding is
is-self p = simp (eq-eqb p.gain p.gain refl, eq-eqb p.first p.first refl, eq-eqb p.second p.second refl)

pub is_same : (p q : Pair) → 0 < is p q → p ≡ q
unfolding is
is_same p q h =
    let g = picked _ _ h in
    let f = picked _ _ g.1 in
    let s = picked _ _ f.1 in
    λ i. record { gain = eqb-true p.gain q.gain g.0 i; first = eqb-true p.first q.first f.0 i; second = eqb-true p.second q.second s.0 i }

-- ---- a pair is there where its count is not 0

sum-at : (a : ℕ → ℕ) (n k : ℕ) → k < n → a k ≤ sum a n
unfolding sum
sum-at a zero k l = absurd (not-suc-le-zero l)
sum-at a (suc n) k l = ⊎_elim
    (λ (e : k ≡ n). let same = ap a e in omega arith)
    (λ (d : k ≢ n). let ih = sum-at a n k (omega arith) in omega arith)
    (same_or_not k n)

sum-where : (a : ℕ → ℕ) (n : ℕ) → 0 < sum a n → (k : ℕ) × (k < n) × (0 < a k)
unfolding sum
sum-where a zero h = absurd (not-suc-le-zero h)
sum-where a (suc n) h = ⊎_elim
    (λ (e : a n ≡ 0). let ih = sum-where a n (omega arith) in (ih.0, omega (arith, ih.1), ih.2))
    (λ (d : a n ≢ 0). (n, omega arith, omega arith))
    (same_or_not (a n) 0)

module _ {w : List Pair} {n : ℕ} {p : Pair} where
  pub has-counted : Has w n p → 0 < weight_of w n (is p)
  unfolding weight_of
  has-counted h =
      let some = sum-at (λ k. is p (pair_at w k)) n h.place h.below in
      let one : is p (pair_at w h.place) ≡ 1 = ap (is p) h.here ∙ is-self p in
      omega arith

pub counted_has : (w : List Pair) (n : ℕ) (p : Pair) → 0 < weight_of w n (is p) → Has w n p
unfolding weight_of
counted_has w n p h =
    let k = sum-where (λ k. is p (pair_at w k)) n h in
    record { place = k.0; below = k.1; here = sym (is_same p (pair_at w k.0) k.2) }

-- ---- a pair put behind those that are there

module _ {w w' : List Pair} {n : ℕ} {p : Pair} (s : Put w n p w') where
  -- it is there
  pub behind-has : Has w' (n + 1) p
  behind-has = record { place = n; below = omega arith; here = s.here }

  -- what was there is there
  pub behind-keeps : {q : Pair} → Has w n q → Has w' (n + 1) q
  behind-keeps h = record { place = h.place; below = omega (arith, h.below); here = s.other h.place (omega (arith, h.below)) ∙ h.here }

  -- and nothing else is
  pub behind-only : {q : Pair} → Has w' (n + 1) q → (q ≡ p) ⊎ Has w n q
  behind-only h = ⊎_elim
      (λ (e : h.place ≡ n). inl (sym h.here ∙ ap (pair_at w') e ∙ s.here))
      (λ (d : h.place ≢ n). inr (record { place = h.place; below = omega (arith, h.below); here = sym (s.other h.place d) ∙ h.here }))
      (same_or_not h.place n)

-- ---- the same pairs in heap order

module _ {w w' : List Pair} {n : ℕ} (s : Heaped w n w') where
  -- what was there is there
  pub heaped-has : {q : Pair} → Has w n q → Has w' n q
  heaped-has {q} h = counted_has w' n q (let c = s.content (is q) in let some = has-counted h in omega arith)

  -- and nothing else is
  pub heaped-only : {q : Pair} → Has w' n q → Has w n q
  heaped-only {q} h = counted_has w n q (let c = s.content (is q) in let some = has-counted h in omega arith)

-- ---- what a push and a take do to what is there

-- either q is p, or it is not counted by p's weight
is-or-not : (p q : Pair) → (p ≡ q) ⊎ (is p q ≡ 0)
is-or-not p q = ⊎_elim
    (λ (e : is p q ≡ 0). inr e)
    (λ (d : is p q ≢ 0). inl (is_same p q (omega arith)))
    (same_or_not (is p q) 0)

module _ {w w' : List Pair} {n : ℕ} {p : Pair} (s : Pushed w n p w') where
  -- what was pushed is there
  pub push-has : Has w' (n + 1) p
  push-has = counted_has w' (n + 1) p (let c = s.content (is p) in let one = is-self p in omega arith)

  -- what was there is there
  pub push-keeps : {q : Pair} → Has w n q → Has w' (n + 1) q
  push-keeps {q} h = counted_has w' (n + 1) q (let c = s.content (is q) in let some = has-counted h in omega arith)

  -- and nothing else is
  pub push-only : {q : Pair} → Has w' (n + 1) q → (q ≡ p) ⊎ Has w n q
  push-only {q} h = ⊎_elim
      (λ (e : q ≡ p). inl e)
      (λ (d : is q p ≡ 0). inr (counted_has w n q (let c = s.content (is q) in let some = has-counted h in omega arith)))
      (is-or-not q p)

module _ {w w' : List Pair} {n : ℕ} {p : Pair} (s : Popped w n p w') where
  -- what was not taken is there
  pub take-keeps : {q : Pair} → Has w n q → (q ≡ p) ⊎ Has w' (n - 1) q
  take-keeps {q} h = ⊎_elim
      (λ (e : q ≡ p). inl e)
      (λ (d : is q p ≡ 0). inr (counted_has w' (n - 1) q (let c = s.content (is q) in let some = has-counted h in omega arith)))
      (is-or-not q p)

  -- and nothing else is
  pub take-only : {q : Pair} → Has w' (n - 1) q → Has w n q
  take-only {q} h = counted_has w n q (let c = s.content (is q) in let some = has-counted h in omega arith)

  -- what was taken is the best of what was there
  pub take-best : {q : Pair} → Has w n q → AtLeast p q
  take-best h = carry refl (sym h.here) (s.best h.place h.below)

-- ---- what dropping keeps

module _ {m : List ℕ} {place : ℕ} {w w' : List Pair} {n r : ℕ} (s : KeptMarked m place w n r w') where
  -- a pair with two marks is there
  pub kept-has : {q : Pair} → Has w n q → 0 < get_or m (place + q.first) 0 → 0 < get_or m (place + q.second) 0 → Has w' r q
  unfolding weight_of if_marked
  kept-has {q} h a b =
      let some = sum-at (λ k. if_marked m place (is q) (pair_at w k)) n h.place h.below in
      let one : if_marked m place (is q) (pair_at w h.place) ≡ 1 = ap (if_marked m place (is q)) h.here ∙ rw (both-marked m place q a b) (is-self q) in
      counted_has w' r q (omega (arith, s.content (is q)))

  -- and nothing else is
  pub kept-only : {q : Pair} → Has w' r q → Has w n q
  unfolding weight_of if_marked
  kept-only {q} h =
      let k = sum-where (λ k. if_marked m place (is q) (pair_at w k)) n (let some = has-counted h in omega (arith, s.content (is q))) in
      record { place = k.0; below = k.1; here = sym (is_same q (pair_at w k.0) (picked (both_marked m place (pair_at w k.0)) (is q (pair_at w k.0)) k.2).1) }
