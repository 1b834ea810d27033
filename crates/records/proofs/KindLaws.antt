-- A byte by the test of its kind. Assumes nothing.
use mathlib.Core.Path.{◌≡◌, refl, sym, ◌∙◌}
use mathlib.Core.Bool.{true, false}
use Prim.Native.Nat.{ℕ}
use lib.Dec.{eqb}
use borrow.Author.Tests.{eqb-true, eq-eqb}
use Rattle.laws.proofs.Cases.{true-false}

pub is_by : (k c : ℕ) → true ≡ eqb k c → k ≡ c
is_by k c e = eqb-true k c (sym e)

pub not_by : (k c : ℕ) → false ≡ eqb k c → k ≡ c → ⊥
not_by k c e z = true-false (e ∙ eq-eqb k c z) refl
