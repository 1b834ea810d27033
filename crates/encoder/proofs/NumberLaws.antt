-- Which group a shape has, whether a number is among others, and where an element of a sorted list stands. Assumes nothing.
use mathlib.Core.Path.{◌≡◌, refl, sym, ap, ap₂, ◌∙◌}
use mathlib.Core.Logic.{⊎_elim}
use mathlib.Core.Bool.{Bool, true, false, ◌||◌}
use mathlib.Core.List.Memᴰ
use mathlib.Core.List.{List, [], ◌∷◌, Memᴰ}
use Prim.Native.Nat.{ℕ, zero, suc, ◌<◌}
use native.Mathlib.Omega.{arith}
use lib.Dec.{eqb}
use borrow.Author.Tests.{eq-eqb, ne_eqb, eqb-true}
use lib.ListN.{length, get_or}
use Rattle.laws.specs.Pick.{pick}
use Rattle.laws.specs.Every.{EachTwo}
use Rattle.laws.specs.Sorting.{insert, sorted}
use Rattle.laws.proofs.Cases.{Which, holds, fails, which, and-true, same_or_not}
use Rattle.laws.proofs.EveryLaws.{all-get_or}
use Rattle.shapes.specs.Shape.{Shape}
use Rattle.shapes.specs.Group.{Group}
use Rattle.rule.specs.Model.{Living}
use Rattle.encoder.specs.Packed.{same_shape, number_of, is_among, home_of}

-- ---- shapes

same_self : (s : Shape) → same_shape s s ≡ true
unfolding same_shape
same_self [] = refl
same_self (v ∷ s) = rw (eq-eqb v v refl, same_self s)

same_true : (s t : Shape) → same_shape s t ≡ true → s ≡ t
unfolding same_shape
same_true [] [] h = refl
same_true [] (w ∷ t) h = let z : ◌≡◌ {A = ℕ} 0 1 = cc in absurd (omega arith)
same_true (v ∷ s) [] h = let z : ◌≡◌ {A = ℕ} 0 1 = cc in absurd (omega arith)
same_true (v ∷ s) (w ∷ t) h =
    let a = and-true (eqb v w) _ h in
    ap₂ ◌∷◌ (eqb-true v w a.0) (same_true s t a.1)

same_false : (s t : Shape) → (s ≡ t → ⊥) → same_shape s t ≡ false
same_false s t n = go (which (same_shape s t))
  where
    go : Which (same_shape s t) → same_shape s t ≡ false
    go (holds h) = absurd (n (same_true s t h))
    go (fails h) = h

-- of groups with shapes of their own, the one with shape s is at its number
pub number_at : (gs : List Group) (i : ℕ) (d : Group) (s : Shape) → EachTwo (λ g h. g.shape ≡ h.shape → ⊥) gs → i < length gs → s ≡ (get_or gs i d).shape → number_of s gs ≡ i
unfolding number_of
number_at [] i d s u l e = absurd (omega arith)
number_at (g ∷ gs) zero d s u l e = rw (ap (same_shape s) (sym e) ∙ same_self s)
number_at (g ∷ gs) (suc i) d s u l e =
    let k : i < length gs = omega arith in
    let x = all-get_or (λ h. g.shape ≡ h.shape → ⊥) gs i d u.0 k in
    rw (same_false s g.shape (λ z. x (sym z ∙ e))) (ap suc (number_at gs i d s u.1 k e))

-- ---- numbers

pub among : (i : ℕ) (l : List ℕ) → Memᴰ i l → is_among i l ≡ true
unfolding is_among
among i [] m = absurd (Memᴰ.not-nil m)
among i (j ∷ l) m = go (λ t. among i l t) (eqb i j) refl
  where
    go : (Memᴰ i l → is_among i l ≡ true) → (b : Bool) → eqb i j ≡ b → (b || is_among i l) ≡ true
    go ih true e = refl
    go ih false e = ⊎_elim (λ (h : i ≡ j). absurd (let z : true ≡ false = sym (eq-eqb i j h) ∙ e in let y : ◌≡◌ {A = ℕ} 0 1 = cc in omega arith)) ih (Memᴰ.cases_cons m)

pub among-mem : (i : ℕ) (l : List ℕ) → is_among i l ≡ true → Memᴰ i l
unfolding is_among
among-mem i [] h = let z : ◌≡◌ {A = ℕ} 0 1 = cc in absurd (omega arith)
among-mem i (j ∷ l) h = ⊎_elim
    (λ (e : i ≡ j). Memᴰ.head e)
    (λ d. Memᴰ.tail (among-mem i l (rw (ne_eqb i j d) at h)))
    (same_or_not i j)

pub not-among : (i : ℕ) (l : List ℕ) → (Memᴰ i l → ⊥) → is_among i l ≡ false
not-among i l n = go (which (is_among i l))
  where
    go : Which (is_among i l) → is_among i l ≡ false
    go (holds h) = absurd (n (among-mem i l h))
    go (fails h) = h

-- of groups one of which i went into, the place of i has such a one
pub home_found : (i : ℕ) (l : List Living) (d : Living) (q : ℕ) → q < length l → Memᴰ i (get_or l q d).origins → (home_of i l < length l) × Memᴰ i (get_or l (home_of i l) d).origins
unfolding home_of
home_found i [] d q h m = absurd (omega arith)
home_found i (g ∷ l) d zero h m = rw (among i g.origins m) (omega arith, m)
home_found i (g ∷ l) d (suc q) h m = go (which (is_among i g.origins)) (home_found i l d q (omega arith) m)
  where
    go : Which (is_among i g.origins) → (home_of i l < length l) × Memᴰ i (get_or l (home_of i l) d).origins
        → (home_of i (g ∷ l) < length (g ∷ l)) × Memᴰ i (get_or (g ∷ l) (home_of i (g ∷ l)) d).origins
    go (holds e) r = rw e (omega arith, among-mem i g.origins e)
    go (fails e) r = rw e (omega (arith, r.0), r.1)

-- ---- a member of a list

-- it has a place
pub record At {A : Type 0} (l : List A) (d g : A) : Type 0 where
  pub place : ℕ
  pub below : place < length l
  pub is : get_or l place d ≡ g

pub mem-at : {A : Type 0} (l : List A) (d g : A) → Memᴰ g l → At l d g
mem-at [] d g m = absurd (Memᴰ.not-nil m)
mem-at (x ∷ l) d g m = ⊎_elim
    (λ e. record { place = 0; below = omega arith; is = sym e })
    (λ t. let r = mem-at l d g t in record { place = suc r.place; below = omega (arith, r.below); is = r.is })
    (Memᴰ.cases_cons m)

pub at_mem : {A : Type 0} (l : List A) (d : A) (q : ℕ) → q < length l → Memᴰ (get_or l q d) l
at_mem [] d q h = absurd (omega arith)
at_mem (x ∷ l) d zero h = Memᴰ.head refl
at_mem (x ∷ l) d (suc q) h = Memᴰ.tail (at_mem l d q (omega arith))

-- and is there when the list is sorted
mem-insert : {A : Type 0} (le : A → A → Bool) (x : A) (l : List A) (g : A) → Memᴰ g (x ∷ l) → Memᴰ g (insert le x l)
unfolding insert
mem-insert le x [] g m = m
mem-insert le x (y ∷ l) g m = go (λ t. mem-insert le x l g t) (le x y)
  where
    go : (Memᴰ g (x ∷ l) → Memᴰ g (insert le x l)) → (b : Bool) → Memᴰ g (pick b (x ∷ y ∷ l) (y ∷ insert le x l))
    go ih true = m
    go ih false = ⊎_elim
        (λ e. Memᴰ.tail (ih (Memᴰ.head e)))
        (λ t. ⊎_elim (λ e. Memᴰ.head e) (λ u. Memᴰ.tail (ih (Memᴰ.tail u))) (Memᴰ.cases_cons t))
        (Memᴰ.cases_cons m)

pub mem-sorted : {A : Type 0} (le : A → A → Bool) (l : List A) (g : A) → Memᴰ g l → Memᴰ g (sorted le l)
unfolding sorted
mem-sorted le [] g m = m
mem-sorted le (x ∷ l) g m =
    mem-insert le x (sorted le l) g (⊎_elim (λ e. Memᴰ.head e) (λ t. Memᴰ.tail (mem-sorted le l g t)) (Memᴰ.cases_cons m))
