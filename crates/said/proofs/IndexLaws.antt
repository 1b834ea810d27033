-- Regions in use by index: a list, and one more. Assumes nothing.
use mathlib.Core.Path.{◌≡◌, refl, sym}
use mathlib.Core.Bool.{Bool, true, false, ◌||◌}
use mathlib.Core.List.{List, [], ◌∷◌, ◌++◌}
use Prim.Native.Nat.{ℕ, suc, ◌≤◌, ◌<◌}
use native.Mathlib.Omega.{arith}
use lib.ListN.{length, get_or, length-append, get_or-append}
use lib.Dec.{eqb}
use borrow.Author.Tests.{eq-eqb, eqb-true}
use Rattle.laws.specs.Pick.{pick}
use Rattle.laws.proofs.Cases.{Which, which}
use Rattle.laws.proofs.Cases.Which.{holds, fails}
use Rattle.said.specs.Sets.{has, with_use, index_in}

pub has-snoc : (q p : ℕ) (l : List ℕ) → has q (l ++ (p ∷ [])) ≡ pick (has q l) true (eqb q p)
unfolding has
has-snoc q p [] = go (eqb q p)
  where
    go : (b : Bool) → (b || false) ≡ b
    go true = refl
    go false = refl
has-snoc q p (x ∷ l) = go (has-snoc q p l) (which (eqb q x))
  where
    go : has q (l ++ (p ∷ [])) ≡ pick (has q l) true (eqb q p) → Which (eqb q x) → (eqb q x || has q (l ++ (p ∷ []))) ≡ pick (eqb q x || has q l) true (eqb q p)
    go rec (holds e) = rw e
    go rec (fails e) = rw (e, rec)

pub index_below : (q : ℕ) (l : List ℕ) → has q l ≡ true → index_in q l < length l
unfolding has index_in
index_below q [] h = let z : ◌≡◌ {A = ℕ} 0 1 = cc in absurd (omega arith)
index_below q (x ∷ l) h = go (λ t. index_below q l t) (which (eqb q x)) h
  where
    go : (has q l ≡ true → index_in q l < length l) → Which (eqb q x) → (eqb q x || has q l) ≡ true → pick (eqb q x) 0 (suc (index_in q l)) < suc (length l)
    go rec (holds e) h = rw e (omega arith)
    go rec (fails e) h = rw e (omega (arith, rec (rw e at h)))

pub index_at : (q : ℕ) (l : List ℕ) → has q l ≡ true → get_or l (index_in q l) 0 ≡ q
unfolding has index_in
index_at q [] h = let z : ◌≡◌ {A = ℕ} 0 1 = cc in absurd (omega arith)
index_at q (x ∷ l) h = go (λ t. index_at q l t) (which (eqb q x)) h
  where
    go : (has q l ≡ true → get_or l (index_in q l) 0 ≡ q) → Which (eqb q x) → (eqb q x || has q l) ≡ true → get_or (x ∷ l) (pick (eqb q x) 0 (suc (index_in q l))) 0 ≡ q
    go rec (holds e) h = rw e (sym (eqb-true q x e))
    go rec (fails e) h = rw e (rec (rw e at h))

pub index-snoc-old : (q p : ℕ) (l : List ℕ) → has q l ≡ true → index_in q (l ++ (p ∷ [])) ≡ index_in q l
unfolding has index_in
index-snoc-old q p [] h = let z : ◌≡◌ {A = ℕ} 0 1 = cc in absurd (omega arith)
index-snoc-old q p (x ∷ l) h = go (λ t. index-snoc-old q p l t) (which (eqb q x)) h
  where
    go : (has q l ≡ true → index_in q (l ++ (p ∷ [])) ≡ index_in q l) → Which (eqb q x) → (eqb q x || has q l) ≡ true
        → pick (eqb q x) 0 (suc (index_in q (l ++ (p ∷ [])))) ≡ pick (eqb q x) 0 (suc (index_in q l))
    go rec (holds e) h = rw e
    go rec (fails e) h = rw (e, rec (rw e at h))

pub index-snoc-new : (q : ℕ) (l : List ℕ) → has q l ≡ false → index_in q (l ++ (q ∷ [])) ≡ length l
unfolding has index_in
index-snoc-new q [] h = rw (eq-eqb q q refl)
index-snoc-new q (x ∷ l) h = go (λ t. index-snoc-new q l t) (which (eqb q x)) h
  where
    go : (has q l ≡ false → index_in q (l ++ (q ∷ [])) ≡ length l) → Which (eqb q x) → (eqb q x || has q l) ≡ false
        → pick (eqb q x) 0 (suc (index_in q (l ++ (q ∷ [])))) ≡ suc (length l)
    go rec (holds e) h = let f = rw e at h in let z : ◌≡◌ {A = ℕ} 0 1 = cc in absurd (omega arith)
    go rec (fails e) h = rw (e, rec (rw e at h))

-- ---- one more use

pub with-known : (l : List ℕ) (q : ℕ) → has q l ≡ true → with_use l q ≡ l
unfolding with_use
with-known l q h = rw h

pub with-new : (l : List ℕ) (q : ℕ) → has q l ≡ false → with_use l q ≡ l ++ (q ∷ [])
unfolding with_use
with-new l q h = rw h

pub with-has : (l : List ℕ) (q : ℕ) → has q (with_use l q) ≡ true
with-has l q = go (which (has q l))
  where
    go : Which (has q l) → has q (with_use l q) ≡ true
    go (holds h) = rw (with-known l q h, h)
    go (fails h) = rw (with-new l q h, has-snoc q q l, h, eq-eqb q q refl)

-- what stood in the list stands there still
pub with-old : (l : List ℕ) (q k : ℕ) → k < length l → get_or (with_use l q) k 0 ≡ get_or l k 0
with-old l q k b = go (which (has q l))
  where
    go : Which (has q l) → get_or (with_use l q) k 0 ≡ get_or l k 0
    go (holds h) = rw (with-known l q h)
    go (fails h) = rw (with-new l q h) (get_or-append l (q ∷ []) 0 k b)

pub with-long : (l : List ℕ) (q : ℕ) → length l ≤ length (with_use l q)
with-long l q = go (which (has q l))
  where
    go : Which (has q l) → length l ≤ length (with_use l q)
    go (holds h) = rw (with-known l q h) (omega arith)
    go (fails h) = rw (with-new l q h, length-append l (q ∷ [])) (omega arith)
