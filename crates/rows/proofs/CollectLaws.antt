-- Laws of finding a shape's columns and of the table by which they are looked up. Assumes nothing.
use mathlib.Core.Path.{◌≡◌, refl, sym, ap, ◌∙◌}
use mathlib.Core.Bool.{true}
use mathlib.Core.List.{List, [], ◌∷◌, ◌++◌}
use Prim.Native.Nat.{ℕ, suc, ◌+◌, ◌≤◌, ◌<◌}
use native.Mathlib.Numerals.{add-one}
use native.Mathlib.Omega.{arith}
use lib.Dec.{eqb}
use lib.ListN.{length, get_or, take, drop, set, replicate, length-append, length-set}
use lib.Seq.{drop-cons, drop-length, take-suc, take-length, length-take-le, get_or-set_same, get_or-set_other, get_or-take}
use borrow.Author.Tests.{eq-eqb, ne_eqb, eqb-true, eqb-false}
use Rattle.laws.specs.Bytes.{over}
use Rattle.laws.proofs.Cases.{Which, which}
use Rattle.laws.proofs.Cases.Which.{holds, fails}
use Rattle.shapes.specs.Shape.{Shape}
use Rattle.reader.specs.declared.column.Column.TheVariants.{At}
use Rattle.reader.specs.Store.{are_columns_ok, find}
use Rattle.rows.specs.Columns.{add_if, of_width, columns_of, fours, twoes}
use Rattle.rows.specs.Lent.{place_no, Placed, Put}
use Rattle.reader.proofs.ColumnLaws.{find-snoc, find-end}
use Rattle.reader.proofs.StoreLaws.{ok-once, ok-below, zeros-at}
use Rattle.rows.proofs.OverLaws.{over_none, over-join, set-over}

-- ---- one width

module _ (w : ℕ) (s : Shape) (i : ℕ) (h : i < length s) where
  pub rest-same : get_or s i 0 ≡ w → of_width w i (drop i s) ≡ i ∷ of_width w (i + 1) (drop (i + 1) s)
  unfolding of_width add_if
  rest-same e =
      let z : drop i s ≡ get_or s i 0 ∷ drop (i + 1) s = rw add-one (drop-cons s i 0 h) in
      rw (z, eq-eqb (get_or s i 0) w e)

  pub rest-other : (get_or s i 0 ≡ w → ⊥) → of_width w i (drop i s) ≡ of_width w (i + 1) (drop (i + 1) s)
  unfolding of_width add_if
  rest-other n =
      let z : drop i s ≡ get_or s i 0 ∷ drop (i + 1) s = rw add-one (drop-cons s i 0 h) in
      rw (z, ne_eqb (get_or s i 0) w n)

-- with the regions from i on put behind the n words, all is there
pub record Collecting (w : ℕ) (s : Shape) (from : ℕ) (old new : List ℕ) (n i : ℕ) : Type 0 where
  pub within : i ≤ length s
  pub long : length new ≡ length old
  pub end : n + length (of_width w i (drop i s)) ≡ from + length (of_width w 0 s)
  pub is : over new n (length (of_width w i (drop i s))) (of_width w i (drop i s)) ≡ over old from (length (of_width w 0 s)) (of_width w 0 s)

module _ (w : ℕ) (s : Shape) (from : ℕ) (old : List ℕ) (room : from + length (of_width w 0 s) ≤ length old) where
  pub collect-start : Collecting w s from old old from 0
  collect-start = record { within = omega arith; long = refl; end = refl; is = refl }

  module _ (new : List ℕ) (n i : ℕ) (c : Collecting w s from old new n i) (h : i < length s) where
    pub collect-room : get_or s i 0 ≡ w → n < length new
    collect-room e = omega (arith, c.long, c.end, ap length (rest-same w s i h e))

    pub collect-same : get_or s i 0 ≡ w → Collecting w s from old (set new n i) (n + 1) (i + 1)
    collect-same e =
        let rest = of_width w (i + 1) (drop (i + 1) s) in
        let r = rest-same w s i h e in
        let b = collect-room e in
        let m = ap length r in
        let one : length {A = ℕ} (i ∷ []) ≡ 1 = refl in
        let z : 1 + length rest ≡ suc (length rest) = omega arith in
        record {
          within = omega arith;
          long = length-set new n i ∙ c.long;
          end = omega (arith, c.end);
          is =
              rw (set-over new n i b)
              (over-join new n (i ∷ []) rest 1 (length rest) one refl (omega (arith, c.long, c.end))
              ∙ rw z (rw r at c.is));
        }

    pub collect-other : (get_or s i 0 ≡ w → ⊥) → Collecting w s from old new n (i + 1)
    collect-other e =
        let r = rest-other w s i h e in
        record {
          within = omega arith;
          long = c.long;
          end = omega (arith, c.end, ap length r);
          is = rw r at c.is;
        }

  pub collect-done : (new : List ℕ) (n i : ℕ) → Collecting w s from old new n i → length s ≤ i → Put from (of_width w 0 s) old new n
  unfolding of_width
  collect-done new n i c h =
      let e : i ≡ length s = omega (arith, c.within) in
      let z : drop i s ≡ [] = rw e (drop-length s) in
      let m = rw z at c.end in
      record { end = omega arith; is = sym (over_none new n) ∙ (rw z at c.is) }

-- ---- all widths

count_most : (s : Shape) (r : ℕ) → length (of_width 4 r s) + length (of_width 2 r s) + length (of_width 1 r s) ≤ length s
unfolding of_width add_if
count_most [] r = omega arith
count_most (v ∷ s) r =
    let ih = count_most s (r + 1) in
    go (which (eqb v 4)) (which (eqb v 2)) (which (eqb v 1)) ih
  where
    go : Which (eqb v 4) → Which (eqb v 2) → Which (eqb v 1)
        → length (of_width 4 (r + 1) s) + length (of_width 2 (r + 1) s) + length (of_width 1 (r + 1) s) ≤ length s
        → length (add_if (eqb v 4) r (of_width 4 (r + 1) s)) + length (add_if (eqb v 2) r (of_width 2 (r + 1) s)) + length (add_if (eqb v 1) r (of_width 1 (r + 1) s)) ≤ suc (length s)
    go (holds a) (holds b) c h = absurd (omega (arith, eqb-true v 4 a, eqb-true v 2 b))
    go (holds a) (fails b) (holds c) h = absurd (omega (arith, eqb-true v 4 a, eqb-true v 1 c))
    go (fails a) (holds b) (holds c) h = absurd (omega (arith, eqb-true v 2 b, eqb-true v 1 c))
    go (holds a) (fails b) (fails c) h = rw (a, b, c) (omega arith)
    go (fails a) (holds b) (fails c) h = rw (a, b, c) (omega arith)
    go (fails a) (fails b) (holds c) h = rw (a, b, c) (omega arith)
    go (fails a) (fails b) (fails c) h = rw (a, b, c) (omega arith)

pub columns-count : (s : Shape) → length (columns_of s) ≡ fours s + twoes s + length (of_width 1 0 s)
unfolding columns_of
columns-count s = simp length-append (omega arith)

pub columns-most : (s : Shape) → fours s + twoes s + length (of_width 1 0 s) ≤ length s
columns-most s = count_most s 0

-- ---- the table of places

-- the first j columns are in the table
pub record Marking (cols places : List ℕ) (n j : ℕ) : Type 0 where
  pub within : j ≤ length cols
  pub long : length places ≡ n
  pub at : (r : ℕ) → r < n → get_or places r 0 ≡ place_no (find r 0 (take j cols))

module _ (cols : List ℕ) (n : ℕ) (ok : are_columns_ok n cols ≡ true) where
  pub mark-start : (places : List ℕ) → length places ≡ n → places ≡ replicate n 0 → Marking cols places n 0
  unfolding place_no find
  mark-start places l e = record { within = omega arith; long = l; at = λ r h. rw e (zeros-at n r) }

  pub mark-room : (j : ℕ) → j < length cols → get_or cols j 0 < n
  mark-room j h = ok-below n cols ok j h

  pub mark-more : (places : List ℕ) (j : ℕ) → Marking cols places n j → j < length cols → Marking cols (set places (get_or cols j 0) (j + 1)) n (j + 1)
  unfolding place_no
  mark-more places j m h =
      let x = get_or cols j 0 in
      let s : take (j + 1) cols ≡ take j cols ++ (x ∷ []) = rw add-one (take-suc cols j 0 h) in
      let k : length (take j cols) ≡ j = length-take-le j cols (omega arith) in
      record {
        within = omega arith;
        long = length-set places x (j + 1) ∙ m.long;
        at = λ r b. rw s (go r b (which (eqb x r)) k);
      }
    where
      go : (r : ℕ) → r < n → Which (eqb (get_or cols j 0) r) → length (take j cols) ≡ j
          → get_or (set places (get_or cols j 0) (j + 1)) r 0 ≡ place_no (find r 0 (take j cols ++ (get_or cols j 0 ∷ [])))
      go r b (holds t) k =
          let e : get_or cols j 0 ≡ r = eqb-true (get_or cols j 0) r t in
          let f : find r 0 (take j cols ++ (r ∷ [])) ≡ At (0 + length (take j cols)) =
          find-end r 0 (take j cols)
          (λ i l g. ok-once n cols ok i j (omega arith) h (e ∙ sym g ∙ get_or-take j cols i 0 (omega arith)))
          in
          let z : 0 + length (take j cols) ≡ j = omega arith in
          rw e (get_or-set_same places r (j + 1) 0 (omega (arith, m.long)) ∙ add-one j ∙ sym (ap place_no (f ∙ ap At z)))
      go r b (fails t) k =
          let d = eqb-false (get_or cols j 0) r t in
          get_or-set_other places (get_or cols j 0) r (j + 1) 0 (λ e. d (sym e)) ∙ m.at r b ∙ sym (ap place_no (find-snoc r 0 (take j cols) (get_or cols j 0) d))

  pub mark-done : (places : List ℕ) (j : ℕ) → Marking cols places n j → length cols ≤ j → Placed cols places
  mark-done places j m h =
      let e : take j cols ≡ cols = (let z : j ≡ length cols = omega (arith, m.within) in rw z (take-length cols)) in
      record { ok = rw m.long ok; at = λ r b. rw e at (m.at r (omega (arith, m.long))) }
