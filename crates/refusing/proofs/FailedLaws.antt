-- Tests in their order: which one answers. Assumes nothing.
use mathlib.Core.Path.{◌≡◌, refl, sym}
use mathlib.Core.Bool.{Bool, true, false, not, ◌&&◌, ◌||◌}
use mathlib.Core.List.{List, [], ◌∷◌}
use mathlib.Core.Logic.{◌⊎◌, inl, inr}
use Prim.Native.Nat.{ℕ, ◌≤◌, ◌<◌}
use native.Mathlib.Omega.{arith}
use Rattle.laws.specs.Every.{All}
use Rattle.laws.proofs.Cases.{true-false}
use Rattle.laws.proofs.EveryLaws.{all-imp}
use Rattle.said.specs.Refusals.{first_failed}

abbrev pub Tests : Type 0
Tests = List (Bool × ℕ)

-- every number of the tests is above n
abbrev pub Above : ℕ → Tests → Type 0
Above n l = All (λ (t : Bool × ℕ). n < t.1) l

-- none of them is n
abbrev pub Without : ℕ → Tests → Type 0
Without n l = All (λ (t : Bool × ℕ). n ≡ t.1 → ⊥) l

rest-not : (n : ℕ) (l : Tests) → 0 < n → Without n l → first_failed l ≡ n → ⊥
unfolding first_failed
rest-not n [] p a e = omega arith
rest-not n ((true, m) ∷ l) p a e = rest-not n l p a.1 e
rest-not n ((false, m) ∷ l) p a e = a.0 (sym e)

module _ (n : ℕ) (l : Tests) where
  -- a test fails, and no later one has its number
  pub this-alone : (b : Bool) → 0 < n → Without n l → first_failed ((b, n) ∷ l) ≡ n → b ≡ false
  unfolding first_failed
  this-alone true p a e = absurd (rest-not n l p a e)
  this-alone false p a e = refl

  pub this : (b : Bool) → 0 < n → Above n l → first_failed ((b, n) ∷ l) ≡ n → b ≡ false
  this b p a e = this-alone b p (all-imp (λ t h z. omega arith) l a) e

  pub failed : (b : Bool) → b ≡ false → first_failed ((b, n) ∷ l) ≡ n
  unfolding first_failed
  failed b e = rw e

  -- another number is answered, or none
  module _ (m : ℕ) where
    pub other : (b : Bool) → (n ≡ m → ⊥) → first_failed ((b, n) ∷ l) ≡ m → b ≡ true
    unfolding first_failed
    other true d e = refl
    other false d e = absurd (d e)

    pub later : (b : Bool) → (n ≡ m → ⊥) → first_failed ((b, n) ∷ l) ≡ m → first_failed l ≡ m
    unfolding first_failed
    later true d e = e
    later false d e = absurd (d e)

    pub passed : (b : Bool) → b ≡ true → first_failed l ≡ m → first_failed ((b, n) ∷ l) ≡ m
    unfolding first_failed
    passed b t e = rw t e

-- two tests with one number
pub one_of_two : (n : ℕ) (a b : Bool) → 0 < n → first_failed ((a, n) ∷ (b, n) ∷ []) ≡ n → (a ≡ false) ⊎ (b ≡ false)
unfolding first_failed
one_of_two n true true p e = absurd (omega arith)
one_of_two n true false p e = inr refl
one_of_two n false b p e = inl refl

pub second-failed : (n : ℕ) (a b : Bool) → b ≡ false → first_failed ((a, n) ∷ (b, n) ∷ []) ≡ n
unfolding first_failed
second-failed n true b e = rw e
second-failed n false b e = refl

-- the number is one of the tests', or 0
pub among-such : (P : ℕ → Type 0) (l : Tests) → All (λ (t : Bool × ℕ). P t.1) l → (first_failed l ≡ 0) ⊎ P (first_failed l)
unfolding first_failed
among-such P [] a = inl refl
among-such P ((true, n) ∷ l) a = among-such P l a.1
among-such P ((false, n) ∷ l) a = inr a.0

pub among : (low high : ℕ) (l : Tests) → All (λ (t : Bool × ℕ). (low ≤ t.1) × (t.1 ≤ high)) l → (first_failed l ≡ 0) ⊎ ((low ≤ first_failed l) × (first_failed l ≤ high))
among low high = among-such (λ n. (low ≤ n) × (n ≤ high))

pub none-failed : first_failed [] ≡ 0
unfolding first_failed
none-failed = refl

-- a test of two parts
pub and-false : (a b : Bool) → a && b ≡ false → (a ≡ false) ⊎ (b ≡ false)
and-false true b e = inr e
and-false false b e = inl refl

pub and_both : (a b : Bool) → a ≡ true → b ≡ true → a && b ≡ true
and_both a b e f = rw (e, f)

pub and_first : (a b : Bool) → a ≡ false → a && b ≡ false
and_first a b e = rw e

pub and_second : (a b : Bool) → b ≡ false → a && b ≡ false
and_second true b e = e
and_second false b e = refl

-- a test that asks something of some records alone
pub asked-fails : (a b : Bool) → not a || b ≡ false → (a ≡ true) × (b ≡ false)
asked-fails true b e = (refl, e)
asked-fails false b e = absurd (true-false refl e)

pub asked-holds : (a b : Bool) → not a || b ≡ true → a ≡ true → b ≡ true
asked-holds true b e h = e
asked-holds false b e h = absurd (true-false h refl)
