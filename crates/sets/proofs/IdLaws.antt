-- Laws of equal sets, places and ids. Assumes nothing.
use mathlib.Core.Path.{◌≡◌, refl, sym, ap, ap₂, ◌∙◌}
use mathlib.Core.Bool.{true, false}
use mathlib.Core.List.{List, [], ◌∷◌, ◌++◌, map, append_assoc, append-nil}
use mathlib.Core.Logic.{◌⊎◌, inl, inr, ⊎_elim}
use Prim.Native.Nat.{ℕ, zero, suc, ◌+◌, ◌≤◌, ◌<◌}
use native.Mathlib.Numerals.{add-one}
use native.Mathlib.Omega.{arith}
use lib.ListN.{length, get_or, take, drop, length-append, length-take, take-append-drop}
use lib.Seq.{take-suc, take_all, get_or-take}
use lib.Dec.{eqb}
use borrow.Author.Tests.{eqb-true, eq-eqb, lt-ltb, le-ltb}
use Rattle.laws.specs.Every.{All}
use Rattle.laws.proofs.Cases.{Which, which, and-true, lt-or-ge}
use Rattle.laws.proofs.Cases.Which.{holds, fails}
use Rattle.laws.proofs.ListLaws.{get_or-map-in}
use Rattle.laws.proofs.EveryLaws.{all_append, all-get_or, all-intro}
use Rattle.sets.specs.Set.{Set, same_set}
use Rattle.sets.specs.Ids.{place, with_set, ids_from, distinct_from, distinct, shared_ids}

-- ---- equal sets

pub same_self : (s : Set) → same_set s s ≡ true
unfolding same_set
same_self [] = refl
same_self (e ∷ s) = rw (eq-eqb e.0 e.0 refl, eq-eqb e.1 e.1 refl, same_self s)

pub same_true : (s t : Set) → same_set s t ≡ true → s ≡ t
unfolding same_set
same_true [] [] h = refl
same_true [] (d ∷ t) h = let z : ◌≡◌ {A = ℕ} 0 1 = cc in absurd (omega arith)
same_true (e ∷ s) [] h = let z : ◌≡◌ {A = ℕ} 0 1 = cc in absurd (omega arith)
same_true (e ∷ s) (d ∷ t) h =
    let a = and-true (eqb e.0 d.0) _ h in
    let b = and-true (eqb e.1 d.1) _ a.1 in
    let p : e.0 ≡ d.0 = eqb-true e.0 d.0 a.0 in
    let q : e.1 ≡ d.1 = eqb-true e.1 d.1 b.0 in
    ap₂ ◌∷◌ (λ i. (p i, q i)) (same_true s t b.1)

pub same_false : (s t : Set) → (s ≡ t → ⊥) → same_set s t ≡ false
same_false s t n = go (which (same_set s t))
  where
    go : Which (same_set s t) → same_set s t ≡ false
    go (holds h) = absurd (n (same_true s t h))
    go (fails h) = h

-- ---- places

place-head : (s t : Set) (l : List Set) → s ≡ t → place s (t ∷ l) ≡ 0
unfolding place
place-head s t l e = rw (ap (same_set s) (sym e) ∙ same_self s)

place-tail : (s t : Set) (l : List Set) → (s ≡ t → ⊥) → place s (t ∷ l) ≡ suc (place s l)
unfolding place
place-tail s t l n = rw (same_false s t n)

-- the head, or not
head-or : (s t : Set) → (s ≡ t) ⊎ (s ≡ t → ⊥)
head-or s t = go (which (same_set s t))
  where
    go : Which (same_set s t) → (s ≡ t) ⊎ (s ≡ t → ⊥)
    go (holds h) = inl (same_true s t h)
    go (fails h) = inr (λ e. let a = ap (same_set s) (sym e) ∙ same_self s in let z : ◌≡◌ {A = ℕ} 0 1 = cc in omega arith)

pub place-most : (s : Set) (l : List Set) → place s l ≤ length l
place-most s [] = unfold place in omega arith
place-most s (t ∷ l) = ⊎_elim (λ e. omega (arith, place-head s t l e)) (λ n. omega (arith, place-tail s t l n, place-most s l)) (head-or s t)

pub place_here : (s : Set) (l : List Set) → place s l < length l → get_or l (place s l) [] ≡ s
place_here s [] h = absurd (omega arith)
place_here s (t ∷ l) h = ⊎_elim
    (λ e. rw (place-head s t l e) (sym e))
    (λ n. let p = place-tail s t l n in rw p (place_here s l (omega arith)))
    (head-or s t)

pub place-first : (s : Set) (l : List Set) (k : ℕ) → k < length l → get_or l k [] ≡ s → place s l ≤ k
place-first s [] k h e = absurd (omega arith)
place-first s (t ∷ l) zero h e = omega (arith, place-head s t l (sym e))
place-first s (t ∷ l) (suc k) h e = ⊎_elim
    (λ q. omega (arith, place-head s t l q))
    (λ n. omega (arith, place-tail s t l n, place-first s l k (omega arith) e))
    (head-or s t)

pub place_none : (s : Set) (l : List Set) → All (λ t. t ≡ s → ⊥) l → place s l ≡ length l
place_none s [] a = unfold place in refl
place_none s (t ∷ l) a = place-tail s t l (λ e. a.0 (sym e)) ∙ ap suc (place_none s l a.1)

pub place_in : (s : Set) (l m : List Set) → place s l < length l → place s (l ++ m) ≡ place s l
place_in s [] m h = absurd (omega arith)
place_in s (t ∷ l) m h = ⊎_elim
    (λ e. place-head s t (l ++ m) e ∙ sym (place-head s t l e))
    (λ n. let p = place-tail s t l n in place-tail s t (l ++ m) n ∙ ap suc (place_in s l m (omega arith)) ∙ sym p)
    (head-or s t)

pub place_end : (s : Set) (l : List Set) → place s l ≡ length l → place s (l ++ (s ∷ [])) ≡ length l
place_end s [] h = place-head s s [] refl
place_end s (t ∷ l) h = ⊎_elim
    (λ e. absurd (omega (arith, place-head s t l e)))
    (λ n. let p = place-tail s t l n in place-tail s t (l ++ (s ∷ [])) n ∙ ap suc (place_end s l (omega arith)))
    (head-or s t)

-- ---- known sets

with-known : (known : List Set) (s : Set) → place s known < length known → with_set known s ≡ known
unfolding with_set
with-known known s h = rw (lt-ltb (place s known) (length known) h)

with-new : (known : List Set) (s : Set) → place s known ≡ length known → with_set known s ≡ known ++ (s ∷ [])
unfolding with_set
with-new known s h = rw (le-ltb (place s known) (length known) (omega arith))

known-or-new : (known : List Set) (s : Set) → (place s known < length known) ⊎ (place s known ≡ length known)
known-or-new known s = ⊎_elim inl (λ h. inr (omega (arith, place-most s known))) (lt-or-ge (place s known) (length known))

-- a set takes its place, and keeps it
with-place : (known : List Set) (s : Set) → (place s (with_set known s) ≡ place s known) × (place s known < length (with_set known s))
with-place known s = ⊎_elim
    (λ h. let e = with-known known s h in (ap (place s) e, rw e h))
    (λ h.
    let e = with-new known s h in
    (ap (place s) e ∙ place_end s known h ∙ sym h, rw (e, length-append known (s ∷ [])) (omega arith)))
    (known-or-new known s)

-- what is known stands first among all
pub record Grows (known all : List Set) : Type 0 where
  pub more : List Set
  pub is : all ≡ known ++ more

grows-with : (known : List Set) (s : Set) → Grows known (with_set known s)
grows-with known s = ⊎_elim
    (λ h. record { more = []; is = with-known known s h ∙ sym (append-nil known) })
    (λ h. record { more = s ∷ []; is = with-new known s h })
    (known-or-new known s)

grows-trans : {k l m : List Set} → Grows k l → Grows l m → Grows k m
grows-trans {k} p q = record { more = p.more ++ q.more; is = q.is ∙ ap (λ (x : List Set). x ++ q.more) p.is ∙ append_assoc k p.more q.more }

pub grows_from : (known l : List Set) → Grows known (distinct_from known l)
unfolding distinct_from
grows_from known [] = record { more = []; is = sym (append-nil known) }
grows_from known (s ∷ l) = grows-trans (grows-with known s) (grows_from (with_set known s) l)

grows-place : {known all : List Set} (s : Set) → Grows known all → place s known < length known → place s all ≡ place s known
grows-place {known} s g h = ap (place s) g.is ∙ place_in s known g.more h

grows-length : {known all : List Set} → Grows known all → length known ≤ length all
grows-length {known} g = rw (g.is, length-append known g.more) (omega arith)

-- ---- ids are places among the distinct sets

pub ids-place : (known l : List Set) → ids_from known l ≡ map (λ s. place s (distinct_from known l)) l
unfolding ids_from distinct_from
ids-place known [] = refl
ids-place known (s ∷ l) =
    let w = with-place known s in
    let g = grows_from (with_set known s) l in
    ap₂ ◌∷◌ (sym (grows-place s g (rw w.0 w.1) ∙ w.0)) (ids-place (with_set known s) l)

-- each set is among them
pub distinct-has : (known l : List Set) → All (λ s. place s (distinct_from known l) < length (distinct_from known l)) l
unfolding distinct_from
distinct-has known [] = tt
distinct-has known (s ∷ l) =
    let w = with-place known s in
    let g = grows_from (with_set known s) l in
    let h : place s (with_set known s) < length (with_set known s) = rw w.0 w.1 in
    (rw (grows-place s g h) (omega (arith, grows-length g)), distinct-has (with_set known s) l)

-- what holds of each set holds of each distinct one
pub distinct-all : (P : Set → Type 0) (known l : List Set) → All P known → All P l → All P (distinct_from known l)
unfolding distinct_from
distinct-all P known [] a b = a
distinct-all P known (s ∷ l) a b = distinct-all P (with_set known s) l
    (⊎_elim (λ h. rw (with-known known s h) a) (λ h. rw (with-new known s h) (all_append P known (s ∷ []) a (b.0, tt))) (known-or-new known s)) b.1

-- one more set
pub distinct_snoc : (known l : List Set) (s : Set) → distinct_from known (l ++ (s ∷ [])) ≡ with_set (distinct_from known l) s
unfolding distinct_from
distinct_snoc known [] s = refl
distinct_snoc known (t ∷ l) s = distinct_snoc (with_set known t) l s

distinct_append : (known l m : List Set) → distinct_from known (l ++ m) ≡ distinct_from (distinct_from known l) m
unfolding distinct_from
distinct_append known [] m = refl
distinct_append known (s ∷ l) m = distinct_append (with_set known s) l m

-- THE LAWS: ids are below the number of distinct sets, and equal exactly for equal sets
pub id_below : (sets : List Set) (k : ℕ) → k < length sets → place (get_or sets k []) (distinct sets) < length (distinct sets)
id_below sets k h = all-get_or (λ s. place s (distinct sets) < length (distinct sets)) sets k [] (distinct-has [] sets) h

pub id_same : (sets : List Set) (j k : ℕ) → j < length sets → k < length sets → place (get_or sets j []) (distinct sets) ≡ place (get_or sets k []) (distinct sets) → get_or sets j [] ≡ get_or sets k []
id_same sets j k p q e =
    sym (place_here (get_or sets j []) (distinct sets) (id_below sets j p))
    ∙ ap (λ (i : ℕ). get_or (distinct sets) i []) e
    ∙ place_here (get_or sets k []) (distinct sets) (id_below sets k q)

-- ---- the steps of giving ids in order

module _ (sets : List Set) (k : ℕ) (h : k < length sets) where
  pub steps : distinct (take (k + 1) sets) ≡ with_set (distinct (take k sets)) (get_or sets k [])
  steps = rw (add-one, take-suc sets k [] h) (distinct_snoc [] (take k sets) (get_or sets k []))

  whole : distinct_from (distinct (take (k + 1) sets)) (drop (k + 1) sets) ≡ distinct sets
  whole = sym (distinct_append [] (take (k + 1) sets) (drop (k + 1) sets)) ∙ ap distinct (take-append-drop (k + 1) sets)

  pub grows-here : Grows (distinct (take (k + 1) sets)) (distinct sets)
  grows-here = record { more = (grows_from (distinct (take (k + 1) sets)) (drop (k + 1) sets)).more; is = sym whole ∙ (grows_from (distinct (take (k + 1) sets)) (drop (k + 1) sets)).is }

  -- a set that no earlier one equals gets the next id
  pub first-new : place (get_or sets k []) sets ≡ k → place (get_or sets k []) (distinct (take k sets)) ≡ length (distinct (take k sets))
  first-new e = place_none (get_or sets k []) (distinct (take k sets)) (distinct-all (λ t. t ≡ get_or sets k [] → ⊥) [] (take k sets) tt none)
    where
      none : All (λ t. t ≡ get_or sets k [] → ⊥) (take k sets)
      none = all-intro (λ t. t ≡ get_or sets k [] → ⊥) (take k sets) []
          (λ i p q.
          let l : i < k = omega (arith, length-take k sets) in
          omega (arith, e, place-first (get_or sets k []) sets i (omega arith) (sym (get_or-take k sets i [] l) ∙ q)))

  pub first-id : place (get_or sets k []) sets ≡ k → place (get_or sets k []) (distinct sets) ≡ length (distinct (take k sets))
  first-id e =
      let f = first-new e in
      let w = with-place (distinct (take k sets)) (get_or sets k []) in
      grows-place (get_or sets k []) grows-here (rw (steps, w.0) w.1) ∙ ap (place (get_or sets k [])) steps ∙ w.0 ∙ f

  pub first-distinct : place (get_or sets k []) sets ≡ k → distinct (take (k + 1) sets) ≡ distinct (take k sets) ++ (get_or sets k [] ∷ [])
  first-distinct e = steps ∙ with-new (distinct (take k sets)) (get_or sets k []) (first-new e)

  pub first_count : place (get_or sets k []) sets ≡ k → length (distinct (take (k + 1) sets)) ≡ length (distinct (take k sets)) + 1
  first_count e = ap length (first-distinct e) ∙ length-append (distinct (take k sets)) (get_or sets k [] ∷ [])

  -- one that an earlier one equals is known
  pub again-distinct : place (get_or sets k []) sets < k → distinct (take (k + 1) sets) ≡ distinct (take k sets)
  again-distinct l =
      let f = place (get_or sets k []) sets in
      let e : get_or (take k sets) f [] ≡ get_or sets k [] = get_or-take k sets f [] l ∙ place_here (get_or sets k []) sets (omega arith) in
      let b = id_below (take k sets) f (omega (arith, length-take k sets)) in
      steps ∙ with-known (distinct (take k sets)) (get_or sets k []) (rw e at b)

  pub again-count : place (get_or sets k []) sets < k → length (distinct (take (k + 1) sets)) ≡ length (distinct (take k sets))
  again-count l = ap length (again-distinct l)

  pub again-same : place (get_or sets k []) sets < k → get_or sets (place (get_or sets k []) sets) [] ≡ get_or sets k []
  again-same l = place_here (get_or sets k []) sets (omega arith)

pub distinct-all-of : (sets : List Set) (k : ℕ) → length sets ≤ k → distinct (take k sets) ≡ distinct sets
distinct-all-of sets k h = ap distinct (take_all k sets h)

-- no more distinct sets than sets
from-most : (known l : List Set) → length (distinct_from known l) ≤ length known + length l
unfolding distinct_from
from-most known [] = omega arith
from-most known (s ∷ l) = omega (arith, from-most (with_set known s) l, one known s)
  where
    one : (known : List Set) (s : Set) → length (with_set known s) ≤ length known + 1
    one known s = ⊎_elim
        (λ h. rw (with-known known s h) (omega arith))
        (λ h. rw (with-new known s h, length-append known (s ∷ [])) (omega arith))
        (known-or-new known s)

pub distinct-most : (sets : List Set) → length (distinct sets) ≤ length sets
distinct-most sets = omega (arith, from-most [] sets)

-- the n-th id is the place of the n-th set among the distinct ones
pub id-at : (sets : List Set) (k : ℕ) → k < length sets → get_or (shared_ids sets) k 0 ≡ place (get_or sets k []) (distinct sets)
id-at sets k h = ap (λ (l : List ℕ). get_or l k 0) (ids-place [] sets) ∙ get_or-map-in (λ s. place s (distinct sets)) sets k [] 0 h
