-- From one cell to the next that is not zero. Assumes nothing.
use mathlib.Core.Path.{◌≡◌, refl}
use mathlib.Core.List.{List}
use mathlib.Core.Logic.{⊎_elim}
use Prim.Native.Nat.{ℕ, zero, suc, ◌+◌, ◌-◌, ◌*◌, ◌/◌, ◌%◌, ◌≤◌, ◌<◌}
use native.Mathlib.Nat.{add-zero, div-mul-le_self, lt-div-mul-add}
use native.Mathlib.Omega.{arith}
use lib.ListN.{length, get_or}
use borrow.Author.Tests.{lt-ltb, le-ltb}
use Rattle.laws.specs.Bytes.{be}
use Rattle.laws.proofs.Cases.{lt-or-ge}
use Rattle.laws.proofs.Products.{row_fits, row_next}
use Rattle.reader.specs.Store.{column_start, column_width}
use Rattle.reader.proofs.ColumnLaws.{at-step, at-fits, bytes-range}
use Rattle.cells.specs.Lent.{ZerosFrom, cell_of, RunEnd, CellsFit, NextCell}

-- ---- a number of bytes is zero exactly where they all are

be-zero : (k : ℕ) (s : List ℕ) (at : ℕ) → ((t : ℕ) → t < k → get_or s (at + t) 0 ≡ 0) → be k s at ≡ 0
unfolding be
be-zero zero s at h = refl
be-zero (suc k) s at h = rw (be-zero k s at (λ t l. h t (omega arith)), h k (omega arith))

be-not : (k : ℕ) (s : List ℕ) (at t : ℕ) → t < k → (get_or s (at + t) 0 ≡ 0 → ⊥) → be k s at ≡ 0 → ⊥
unfolding be
be-not zero s at t l d e = absurd (omega arith)
be-not (suc k) s at t l d e =
    ⊎_elim
    (λ (q : t < k). be-not k s at t q d (omega arith))
    (λ (q : k ≤ t). let y : t ≡ k = omega arith in d (rw y (omega arith)))
    (lt-or-ge t k)

-- ---- columns of one width

pub run-narrow : (word n i : ℕ) → i < n → word % 32768 ≤ i → RunEnd word n i n
run-narrow word n i h w = record { behind = h; within = omega arith; same = same }
  where
    same : (m : ℕ) → i ≤ m → m < n → column_width word m ≡ column_width word i
    same m a b = unfold column_width in rw (le-ltb m (word % 32768) (omega arith), le-ltb i (word % 32768) w)

pub run-wide : (word n i r : ℕ) → i < r → r ≤ n → r ≤ word % 32768 → RunEnd word n i r
run-wide word n i r h k w = record { behind = h; within = k; same = same }
  where
    same : (m : ℕ) → i ≤ m → m < r → column_width word m ≡ column_width word i
    same m a b = unfold column_width in rw (lt-ltb m (word % 32768) (omega arith), lt-ltb i (word % 32768) (omega arith))

-- where they begin
at-run : (word i d : ℕ) → ((m : ℕ) → i ≤ m → m < i + d → column_width word m ≡ column_width word i) → column_start word (i + d) ≡ column_start word i + d * column_width word i
at-run word i zero f = rw add-zero (omega arith)
at-run word i (suc d) f =
    let e : i + suc d ≡ i + d + 1 = omega arith in
    let y : suc d ≡ d + 1 = omega arith in
    let g = at-run word i d (λ m a b. f m a (omega arith)) in
    let x = f (i + d) (omega arith) (omega arith) in
    let z = at-step word (i + d) in
    let v = row_next d (column_width word i) in
    rw (e, y) (omega arith)

-- a cell that is zero is one at the least
pub cells-some : (z k : ℕ) → 0 < k → k ≤ z → 0 < z / k
cells-some z k h l =
    ⊎_elim
    (λ (q : z / k < 1).
    let e : z / k ≡ 0 = omega arith in
    let f = lt-div-mul-add {a = z} {b = k} h in
    absurd (omega (arith, rw e at f)))
    (λ (q : 1 ≤ z / k). q)
    (lt-or-ge (z / k) 1)

-- ---- on the way

-- the columns from j up to i are zero
pub record Nexting (s : List ℕ) (row word n j i : ℕ) : Type 0 where
  pub behind : j ≤ i
  pub within : i ≤ n
  pub zeros : (m : ℕ) → j ≤ m → m < i → cell_of s row word m ≡ 0

module _ (s w : List ℕ) (at row word n j : ℕ) (f : CellsFit s w at row word n j) where
  module _ (i : ℕ) (h : i < n) where
    pub word_in : at + row + column_start word i < length w
    word_in = omega (arith, at-fits word i n h, bytes-range word i, f.inside, f.ahead.room)

    pub wide-some : 0 < column_width word i
    wide-some = omega (arith, bytes-range word i)

  module _ (i k p z : ℕ) (l : Nexting s row word n j i) (h : i < n) (e : k ≡ column_width word i) (c : p ≡ column_start word i) (g : z ≡ get_or w (at + row + p) 0) where
    from-here : ZerosFrom s (row + column_start word i) z
    from-here =
        let y : at + row + column_start word i ≡ at + (row + column_start word i) = omega arith in
        rw (g, c, y) (f.ahead.says (row + column_start word i) (omega (arith, at-fits word i n h, bytes-range word i, f.inside)))

    pub next_here : z < k → NextCell s row word n j i
    next_here q = record {
      behind = l.behind;
      within = l.within;
      zeros = l.zeros;
      there = λ a.
          be-not (column_width word i) s (row + column_start word i) z (omega arith)
          (from-here.stops (omega (arith, bytes-range word i)) (omega (arith, at-fits word i n h, f.inside)));
    }

    -- so many whole cells are zero
    cells-zero : (d : ℕ) → d < z / k → column_width word (i + d) ≡ column_width word i → column_start word (i + d) ≡ column_start word i + d * column_width word i → cell_of s row word (i + d) ≡ 0
    cells-zero d a b q =
        rw (b, q)
        (be-zero (column_width word i) s (row + (column_start word i + d * column_width word i))
        (λ t o.
        let y : row + (column_start word i + d * column_width word i) + t ≡ row + column_start word i + (d * column_width word i + t) = omega arith in
        let u = row_fits (column_width word i) (z / k) d a in
        let v : z / k * column_width word i ≤ z = rw (← e) (div-mul-le_self z k) in
        rw y (from-here.zeros (d * column_width word i + t) (omega arith))))

    pub next_more : (end r : ℕ) → RunEnd word n i end → i < r → r ≤ end → r ≤ i + z / k → Nexting s row word n j r
    next_more end r u a b o = record {
      behind = omega (arith, l.behind);
      within = omega (arith, u.within);
      zeros = λ m x y.
          ⊎_elim
          (λ (q : m < i). l.zeros m x q)
          (λ (q : i ≤ m).
          let v : i + (m - i) ≡ m = omega arith in
          rw v at (cells-zero (m - i) (omega arith) (u.same (i + (m - i)) (omega arith) (omega arith)) (at-run word i (m - i) (λ p s t. u.same p s (omega arith)))))
          (lt-or-ge m i);
    }
