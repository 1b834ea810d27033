-- The first place of a number: how a walk finds it, and what it is. Assumes nothing.
use mathlib.Core.Path.{◌≡◌, refl, sym, ap}
use mathlib.Core.List.Memᴰ
use mathlib.Core.List.{List, [], ◌∷◌, ◌++◌, Memᴰ}
use mathlib.Core.Logic.{⊎_elim}
use Prim.Native.Nat.{ℕ, zero, suc, ◌≤◌, ◌<◌}
use native.Mathlib.Omega.{arith}
use lib.Dec.{eqb}
use lib.ListN.{length, get_or}
use borrow.Author.Tests.{eq-eqb, eqb-true, lt-ltb, le-ltb}
use Rattle.std.specs.List.{position, position_or_len}
use Rattle.std.specs.Option.{unwrap_or}
use Rattle.laws.specs.Pick.{pick}
use Rattle.laws.proofs.Cases.{Which, which, lt-or-ge}
use Rattle.laws.proofs.Cases.Which.{holds, fails}
use Rattle.finding.specs.First.{first_at}

-- ---- what it is

pub first-most : (x : ℕ) (l : List ℕ) → first_at x l ≤ length l
unfolding first_at
first-most x [] = omega arith
first-most x (y ∷ l) = go (first-most x l) (which (eqb y x))
  where
    go : first_at x l ≤ length l → Which (eqb y x) → pick (eqb y x) 0 (suc (first_at x l)) ≤ suc (length l)
    go rec (holds t) = rw t (omega arith)
    go rec (fails t) = rw t (omega arith)

-- it stands there
pub first-is : (x : ℕ) (l : List ℕ) → first_at x l < length l → get_or l (first_at x l) 0 ≡ x
unfolding first_at
first-is x [] h = absurd (omega arith)
first-is x (y ∷ l) h = go (first-is x l) (which (eqb y x)) h
  where
    go : (first_at x l < length l → get_or l (first_at x l) 0 ≡ x) → Which (eqb y x) → pick (eqb y x) 0 (suc (first_at x l)) < suc (length l)
        → get_or (y ∷ l) (pick (eqb y x) 0 (suc (first_at x l))) 0 ≡ x
    go rec (holds t) b = rw t (eqb-true y x t)
    go rec (fails t) b = rw t (rec (omega (arith, rw t at b)))

-- and nowhere before
pub first-least : (x : ℕ) (l : List ℕ) (i : ℕ) → i < length l → get_or l i 0 ≡ x → first_at x l ≤ i
unfolding first_at
first-least x [] i h e = absurd (omega arith)
first-least x (y ∷ l) zero h e = rw (eq-eqb y x e) (omega arith)
first-least x (y ∷ l) (suc i) h e = go (first-least x l i (omega arith) e) (which (eqb y x))
  where
    go : first_at x l ≤ i → Which (eqb y x) → pick (eqb y x) 0 (suc (first_at x l)) ≤ suc i
    go rec (holds t) = rw t (omega arith)
    go rec (fails t) = rw t (omega arith)

-- where it is in the list, it has a place
pub first-in : (x : ℕ) (l : List ℕ) → Memᴰ x l → first_at x l < length l
unfolding first_at
first-in x [] m = absurd (Memᴰ.not-nil m)
first-in x (y ∷ l) m = ⊎_elim
    (λ (e : x ≡ y). rw (eq-eqb y x (sym e)) (omega arith))
    (λ t. go (first-in x l t) (which (eqb y x)))
    (Memᴰ.cases_cons m)
  where
    go : first_at x l < length l → Which (eqb y x) → pick (eqb y x) 0 (suc (first_at x l)) < suc (length l)
    go rec (holds t) = rw t (omega arith)
    go rec (fails t) = rw t (omega arith)

-- what stands behind does not matter then
pub first-front : (x : ℕ) (l m : List ℕ) → first_at x l < length l → first_at x (l ++ m) ≡ first_at x l
unfolding first_at
first-front x [] m h = absurd (omega arith)
first-front x (y ∷ l) m h = go (first-front x l m) (which (eqb y x)) h
  where
    go : (first_at x l < length l → first_at x (l ++ m) ≡ first_at x l) → Which (eqb y x) → pick (eqb y x) 0 (suc (first_at x l)) < suc (length l)
        → pick (eqb y x) 0 (suc (first_at x (l ++ m))) ≡ pick (eqb y x) 0 (suc (first_at x l))
    go rec (holds t) b = rw t refl
    go rec (fails t) b = rw t (ap suc (rec (omega (arith, rw t at b))))

-- ---- std's words for it

first-long : (x : ℕ) (l : List ℕ) → position_or_len (λ y. eqb y x) l ≡ first_at x l
unfolding first_at
first-long x [] = refl
first-long x (y ∷ l) = go (first-long x l) (which (eqb y x))
  where
    go : position_or_len (λ y. eqb y x) l ≡ first_at x l → Which (eqb y x) → position_or_len (λ y. eqb y x) (y ∷ l) ≡ pick (eqb y x) 0 (suc (first_at x l))
    go rec (holds t) = rw t refl
    go rec (fails t) = rw (t, rec) (omega arith)

pub first-found : (x : ℕ) (l : List ℕ) → unwrap_or (position (λ y. eqb y x) l) (length l) ≡ first_at x l
first-found x l = rw (first-long x l) (⊎_elim
    (λ (h : first_at x l < length l). rw (lt-ltb (first_at x l) (length l) h) refl)
    (λ (h : length l ≤ first_at x l). rw (le-ltb (first_at x l) (length l) h) (omega (arith, first-most x l)))
    (lt-or-ge (first_at x l) (length l)))
