-- Two runs of bytes: how a walk compares them, and what it means. Assumes nothing.
use mathlib.Core.Path.{◌≡◌, refl, ap}
use mathlib.Core.Bool.{Bool, true, false, ◌&&◌}
use mathlib.Core.List.{List, [], ◌∷◌}
use Prim.Native.Nat.{ℕ, suc}
use native.Mathlib.Omega.{arith}
use lib.Dec.{eqb}
use lib.Pointwise.{pointwise}
use lib.ListN.{length}
use borrow.Author.Tests.{eq-eqb, eqb-true}
use Rattle.laws.proofs.Cases.{and-true}
use Rattle.stores.specs.Coordinates.{are_same_bytes}

pub same-is : (l m : List ℕ) → are_same_bytes l m ≡ true → l ≡ m
unfolding are_same_bytes
same-is [] [] h = refl
same-is [] (y ∷ m) h = let z : ◌≡◌ {A = ℕ} 0 1 = cc in absurd (omega arith)
same-is (x ∷ l) [] h = let z : ◌≡◌ {A = ℕ} 0 1 = cc in absurd (omega arith)
same-is (x ∷ l) (y ∷ m) h =
    let a = and-true (eqb x y) (are_same_bytes l m) h in
    rw (eqb-true x y a.0, same-is l m a.1)

pub is_same : (l : List ℕ) → are_same_bytes l l ≡ true
unfolding are_same_bytes
is_same [] = refl
is_same (x ∷ l) = rw (eq-eqb x x refl) (is_same l)

-- of other lengths
pub differ-long : (l m : List ℕ) → (length m ≡ length l → ⊥) → false ≡ are_same_bytes l m
unfolding are_same_bytes
differ-long [] [] h = absurd (h refl)
differ-long [] (y ∷ m) h = refl
differ-long (x ∷ l) [] h = refl
differ-long (x ∷ l) (y ∷ m) h = go (eqb x y) (differ-long l m (λ e. h (ap suc e)))
  where
    go : (b : Bool) → false ≡ are_same_bytes l m → false ≡ b && are_same_bytes l m
    go true e = e
    go false e = refl

-- std's word for it
pub same-pointwise : (l m : List ℕ) → pointwise eqb l m ≡ are_same_bytes l m
unfolding are_same_bytes
same-pointwise [] [] = refl
same-pointwise [] (y ∷ m) = refl
same-pointwise (x ∷ l) [] = refl
same-pointwise (x ∷ l) (y ∷ m) = ap (λ b. eqb x y && b) (same-pointwise l m)
