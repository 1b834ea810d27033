-- Laws of columns that the writer needs too: where they lie, which one a region has. Assumes nothing.
use mathlib.Core.Path.{◌≡◌, refl}
use mathlib.Core.List.{List, [], ◌∷◌, ◌++◌}
use Prim.Native.Nat.{ℕ, zero, suc, ◌+◌, ◌-◌, ◌%◌, ◌≤◌, ◌<◌}
use native.Mathlib.Nat.{add-zero}
use native.Mathlib.Decide.{dec_lt}
use native.Mathlib.Omega.{arith}
use lib.ListN.{length, get_or}
use borrow.Author.Tests.{lt-ltb, le-ltb, eq-eqb, ne_eqb}
use Rattle.reader.specs.declared.column.Column.TheVariants.{At}
use Rattle.reader.specs.Store.{find, column_start, column_width}

-- ---- where columns lie

pub at_zero : (word : ℕ) → column_start word 0 ≡ 0
unfolding column_start
at_zero word = go (dec_lt word 32768) (dec_lt 0 (word % 32768))
  where
    go : Dec (word < 32768) → Dec (0 < word % 32768) → column_start word 0 ≡ 0
    go (yes a) (yes b) = simp (lt-ltb word 32768 a, lt-ltb 0 (word % 32768) b)
    go (yes a) (no b) = simp (lt-ltb word 32768 a, le-ltb 0 (word % 32768) (omega arith)) (omega arith)
    go (no a) (yes b) = simp (le-ltb word 32768 (omega arith), lt-ltb 0 (word % 32768) b)
    go (no a) (no b) = simp (le-ltb word 32768 (omega arith), le-ltb 0 (word % 32768) (omega arith)) (omega arith)

-- column j ends where column j + 1 begins
pub at-step : (word j : ℕ) → column_start word (j + 1) ≡ column_start word j + column_width word j
unfolding column_start column_width
at-step word j = go (dec_lt word 32768) (dec_lt j (word % 32768)) (dec_lt (j + 1) (word % 32768))
  where
    go : Dec (word < 32768) → Dec (j < word % 32768) → Dec (j + 1 < word % 32768) → column_start word (j + 1) ≡ column_start word j + column_width word j
    go (yes a) (yes b) (yes d) = simp (lt-ltb word 32768 a, lt-ltb j (word % 32768) b, lt-ltb (j + 1) (word % 32768) d) (omega arith)
    go (yes a) (yes b) (no d) = simp (lt-ltb word 32768 a, lt-ltb j (word % 32768) b, le-ltb (j + 1) (word % 32768) (omega arith)) (omega arith)
    go (yes a) (no b) (yes d) = absurd (omega arith)
    go (yes a) (no b) (no d) = simp (lt-ltb word 32768 a, le-ltb j (word % 32768) (omega arith), le-ltb (j + 1) (word % 32768) (omega arith)) (omega arith)
    go (no a) (yes b) (yes d) = simp (le-ltb word 32768 (omega arith), lt-ltb j (word % 32768) b, lt-ltb (j + 1) (word % 32768) d) (omega arith)
    go (no a) (yes b) (no d) = simp (le-ltb word 32768 (omega arith), lt-ltb j (word % 32768) b, le-ltb (j + 1) (word % 32768) (omega arith)) (omega arith)
    go (no a) (no b) (yes d) = absurd (omega arith)
    go (no a) (no b) (no d) = simp (le-ltb word 32768 (omega arith), le-ltb j (word % 32768) (omega arith), le-ltb (j + 1) (word % 32768) (omega arith)) (omega arith)

at-add : (word j d : ℕ) → column_start word j ≤ column_start word (j + d)
at-add word j zero = rw add-zero (omega arith)
at-add word j (suc d) =
    let e : j + suc d ≡ j + d + 1 = omega arith in
    rw (e, at-step) (omega (arith, at-add word j d))

pub at-le : (word j n : ℕ) → j ≤ n → column_start word j ≤ column_start word n
at-le word j n h =
    let e : j + (n - j) ≡ n = omega arith in
    rw e at (at-add word j (n - j))

pub at-fits : (word j n : ℕ) → j < n → column_start word j + column_width word j ≤ column_start word n
at-fits word j n h = omega (arith, at-step word j, at-le word (j + 1) n (omega arith))

pub bytes-range : (word j : ℕ) → (0 < column_width word j) × (column_width word j ≤ 4)
unfolding column_width
bytes-range word j = go (dec_lt word 32768) (dec_lt j (word % 32768))
  where
    go : Dec (word < 32768) → Dec (j < word % 32768) → (0 < column_width word j) × (column_width word j ≤ 4)
    go (yes a) (yes b) = simp (lt-ltb word 32768 a, lt-ltb j (word % 32768) b) (omega arith)
    go (yes a) (no b) = simp (lt-ltb word 32768 a, le-ltb j (word % 32768) (omega arith)) (omega arith)
    go (no a) (yes b) = simp (le-ltb word 32768 (omega arith), lt-ltb j (word % 32768) b) (omega arith)
    go (no a) (no b) = simp (le-ltb word 32768 (omega arith), le-ltb j (word % 32768) (omega arith)) (omega arith)

-- ---- which column a region has

-- one column more at the end
pub find-snoc : (x i : ℕ) (l : List ℕ) (y : ℕ) → (y ≡ x → ⊥) → find x i (l ++ (y ∷ [])) ≡ find x i l
unfolding find
find-snoc x i [] y n = rw (ne_eqb y x n)
find-snoc x i (z ∷ l) y n = rw (find-snoc x (i + 1) l y n)

pub find-end : (x i : ℕ) (l : List ℕ) → ((k : ℕ) → k < length l → get_or l k 0 ≡ x → ⊥) → find x i (l ++ (x ∷ [])) ≡ At (i + length l)
unfolding find
find-end x i [] n = rw (eq-eqb x x refl, add-zero)
find-end x i (z ∷ l) n =
    let e : i + 1 + length l ≡ i + suc (length l) = omega arith in
    rw (ne_eqb z x (n 0 (omega arith)), find-end x (i + 1) l (λ k h. n (suc k) (omega arith)), e)
