-- Laws of putting bytes one piece after another, and of the parts of a subtable. Assumes nothing.
use mathlib.Core.Path.{◌≡◌, refl, sym, ap, ◌∙◌}
use mathlib.Core.List.{List, [], ◌∷◌, ◌++◌, append-nil}
use mathlib.Core.Logic.{⊎_elim}
use Prim.Native.Nat.{ℕ, suc, ◌+◌, ◌-◌, ◌*◌, ◌≤◌, ◌<◌}
use native.Mathlib.Nat.{suc-mul, zero-mul}
use native.Mathlib.Numerals.{add-one}
use native.Mathlib.Omega.{arith}
use lib.ListN.{length, get_or, take, drop, length-append, length-drop, length-map, drop_of_length-le}
use lib.Seq.{drop_at, drop-cons, drop-length, drop-drop, get_or-drop, get_or-take, length-take-le, take_all, take_at}
use Rattle.laws.specs.Bytes.{bytes_of, over}
use Rattle.laws.specs.Signed.{twos}
use Rattle.laws.specs.LentRange.{Only, seg}
use Rattle.laws.proofs.BytesLaws.{bytes-length, over-drop, over-length}
use Rattle.laws.proofs.Cases.{lt-or-ge}
use Rattle.laws.proofs.RangeLaws.{only-seg, seg-cons, seg-none, length-seg}
use Rattle.reader.specs.Store.{column_start}
use Rattle.rows.specs.Row.{Set, value_in}
use Rattle.rows.specs.Lent.{index_bytes, Put, set_at, row_bytes, cell_words, rows_bytes, head_bytes}
use Rattle.rows.proofs.OverLaws.{over_none, over-join}
use Rattle.rows.proofs.RowLaws.{row-length}

-- ---- pieces

-- with the rest put from n on, all is there
pub record Putting (at : ℕ) (all old new : List ℕ) (n : ℕ) (rest : List ℕ) : Type 0 where
  pub long : length new ≡ length old
  pub end : n + length rest ≡ at + length all
  pub is : over new n (length rest) rest ≡ over old at (length all) all

pub put-start : (at : ℕ) (all old : List ℕ) → Putting at all old old at all
put-start at all old = record { long = refl; end = refl; is = refl }

pub put-more : (at : ℕ) (all old new : List ℕ) (n : ℕ) (x rest next : List ℕ) (k : ℕ) → at + length all ≤ length old
    → Putting at all old new n (x ++ rest) → length x ≡ k → next ≡ over new n k x → Putting at all old next (n + k) rest
put-more at all old new n x rest next k room p l e =
    let m : length (x ++ rest) ≡ k + length rest = length-append x rest ∙ ap (λ (i : ℕ). i + length rest) l in
    let b : n + k + length rest ≤ length new = omega (arith, p.long, p.end) in
    record {
      long = ap length e ∙ over-length new n k x l (omega arith) ∙ p.long;
      end = omega (arith, p.end);
      is =
          ap (λ (y : List ℕ). over y (n + k) (length rest) rest) e
          ∙ over-join new n x rest k (length rest) l refl b
          ∙ ap (λ (i : ℕ). over new n i (x ++ rest)) (sym m)
          ∙ p.is;
    }

pub put-done : (at : ℕ) (all old new : List ℕ) (n : ℕ) (rest : List ℕ) → Putting at all old new n rest → rest ≡ [] → Put at all old new n
put-done at all old new n rest p e =
    let z = rw e at p.end in
    record { end = omega arith; is = sym (over_none new n) ∙ (rw e at p.is) }

-- the last piece
pub put_last : (at : ℕ) (all old new : List ℕ) (n : ℕ) (x next : List ℕ) (k : ℕ) → Putting at all old new n x → length x ≡ k → next ≡ over new n k x → Put at all old next (n + k)
put_last at all old new n x next k p l e = record {
  end = omega (arith, p.end);
  is = e ∙ ap (λ (i : ℕ). over new n i x) (sym l) ∙ p.is;
}

-- one piece that was put, and another behind it
pub put-join : (at : ℕ) (x y o p q : List ℕ) (r t : ℕ) → Put at x o p r → Put r y p q t → at + length x + length y ≤ length o → Put at (x ++ y) o q t
put-join at x y o p q r t a b h =
    let e : length (x ++ y) ≡ length x + length y = length-append x y in
    record {
      end = omega (arith, a.end, b.end);
      is =
          b.is
          ∙ rw (a.end, a.is) (over-join o at x y (length x) (length y) refl refl h)
          ∙ ap (λ (i : ℕ). over o at i (x ++ y)) (sym e);
    }

pub put-long : (at : ℕ) (x o p : List ℕ) (r : ℕ) → Put at x o p r → at + length x ≤ length o → length p ≡ length o
put-long at x o p r a h = ap length a.is ∙ over-length o at (length x) x refl h

-- what a piece that was put leaves: the words before it and behind it, and itself
module _ (at : ℕ) (x o p : List ℕ) (r : ℕ) (a : Put at x o p r) (h : at + length x ≤ length o) where
  pub put-before : (k : ℕ) → k < at → get_or p k 0 ≡ get_or o k 0
  put-before k l =
      sym (get_or-take at p k 0 l)
      ∙ ap (λ (y : List ℕ). get_or y k 0) (ap (take at) a.is ∙ take_at (take at o) (x ++ drop (at + length x) o) at (length-take-le at o (omega arith)))
      ∙ get_or-take at o k 0 l

  put-behind : (k : ℕ) → at + length x ≤ k → get_or p k 0 ≡ get_or o k 0
  put-behind k l =
      let e : at + length x + (k - (at + length x)) ≡ k = omega arith in
      rw e at
      (sym (get_or-drop (at + length x) p (k - (at + length x)) 0)
      ∙ ap (λ (y : List ℕ). get_or y (k - (at + length x)) 0) (ap (drop (at + length x)) a.is ∙ over-drop o at (length x) x refl h (at + length x) (omega arith))
      ∙ get_or-drop (at + length x) o (k - (at + length x)) 0)

  pub put_only : Only ((at, length x) ∷ []) o p
  put_only = record {
    long = put-long at x o p r a h;
    kept = λ k o. ⊎_elim (put-before k) (λ (l : at ≤ k). put-behind k (omega (arith, o.0.apart (omega arith)))) (lt-or-ge k at);
  }

  pub put_keeps : (b n : ℕ) → b + n ≤ at → seg b n p ≡ seg b n o
  put_keeps b n l = only-seg put_only b n (omega arith) (λ k c d. (record { apart = λ q. omega arith }, tt))

  pub put-seg : seg at (length x) p ≡ x
  unfolding seg
  put-seg =
      ap (λ (y : List ℕ). take (length x) (drop at y)) a.is
      ∙ rw (drop_at (take at o) (x ++ drop (at + length x) o) at (length-take-le at o (omega arith))) (take_at x (drop (at + length x) o) (length x) refl)

-- a part that goes to the end, put back: what a write at the part's start is to the whole
pub part-over : (xs : List ℕ) (a b : ℕ) (row ys : List ℕ) → ys ≡ row ++ drop b (take (length xs - a) (drop a xs))
    → take a xs ++ (ys ++ drop (length xs - a) (drop a xs)) ≡ over xs a b row
part-over xs a b row ys e =
    let l : length (drop a xs) ≤ length xs - a = simp length-drop (omega arith) in
    rw (e, take_all (length xs - a) (drop a xs) l, drop_of_length-le (drop a xs) l, append-nil, drop-drop)

-- ---- the head of a subtable

pub head-put : (at items word count : ℕ) (o p q r : List ℕ) → at + 6 ≤ length o
    → p ≡ over o at 2 (bytes_of 2 items) → q ≡ over p (at + 2) 2 (bytes_of 2 word) → r ≡ over q (at + 4) 2 (bytes_of 2 count)
    → Put at (head_bytes items word count) o r (at + 6)
head-put at items word count o p q r room e f g =
    let a = bytes_of 2 items in
    let b = bytes_of 2 word in
    let c = bytes_of 2 count in
    let la = bytes-length 2 items in
    let lb = bytes-length 2 word in
    let lc = bytes-length 2 count in
    let n : length (a ++ (b ++ c)) ≡ 6 = simp length-append (omega arith) in
    let h : at + length (a ++ (b ++ c)) ≤ length o = omega arith in
    let x : at + 2 + 2 ≡ at + 4 = omega arith in
    let y : at + 4 + 2 ≡ at + 6 = omega arith in
    let p1 = put-more at (a ++ (b ++ c)) o o at a (b ++ c) p 2 h (put-start at (a ++ (b ++ c)) o) la e in
    let p2 = put-more at (a ++ (b ++ c)) o p (at + 2) b c q 2 h p1 lb f in
    rw y at (put_last at (a ++ (b ++ c)) o q (at + 4) c r 2 (rw x at p2) lc g)

-- ---- region indexes

pub index-length : (number : ℕ → ℕ) (cols : List ℕ) → length (index_bytes number cols) ≡ 2 * length cols
unfolding index_bytes
index-length number [] = refl
index-length number (r ∷ rs) = length-append (bytes_of 2 (number r)) (index_bytes number rs) ∙ omega (arith, bytes-length 2 (number r), index-length number rs)

index-step : (number : ℕ → ℕ) (cols : List ℕ) (j : ℕ) → j < length cols
    → index_bytes number (drop j cols) ≡ bytes_of 2 (number (get_or cols j 0)) ++ index_bytes number (drop (j + 1) cols)
unfolding index_bytes
index-step number cols j h = rw (drop-cons cols j 0 h, add-one)

module _ (number : ℕ → ℕ) (cols : List ℕ) (at : ℕ) (old : List ℕ) (room : at + 2 * length cols ≤ length old) where
  pub indexes-more : (new next : List ℕ) (j : ℕ) → Putting at (index_bytes number cols) old new (at + 2 * j) (index_bytes number (drop j cols)) → j < length cols
      → next ≡ over new (at + 2 * j) 2 (bytes_of 2 (number (get_or cols j 0))) → Putting at (index_bytes number cols) old next (at + 2 * (j + 1)) (index_bytes number (drop (j + 1) cols))
  indexes-more new next j p h e =
      let x = bytes_of 2 (number (get_or cols j 0)) in
      let z : at + 2 * j + 2 ≡ at + 2 * (j + 1) = omega arith in
      rw z at (put-more at (index_bytes number cols) old new (at + 2 * j) x (index_bytes number (drop (j + 1) cols)) next 2 (omega (arith, index-length number cols)) (rw (index-step number cols j h) at p) (bytes-length 2 (number (get_or cols j 0))) e)

  pub indexes-done : (new : List ℕ) (j : ℕ) → Putting at (index_bytes number cols) old new (at + 2 * j) (index_bytes number (drop j cols)) → j ≡ length cols
      → Put at (index_bytes number cols) old new (at + 2 * j)
  unfolding index_bytes
  indexes-done new j p e =
      let z : drop j cols ≡ [] = rw e (drop-length cols) in
      put-done at (index_bytes number cols) old new (at + 2 * j) (index_bytes number (drop j cols)) p (rw z)

-- ---- rows

cells-length : (set : Set) (cols : List ℕ) → length (cell_words set cols) ≡ length cols
cells-length set cols = length-map cols (λ q. twos 4 (value_in set q))

pub rows-length : (word : ℕ) (cols : List ℕ) (set : ℕ → Set) (xs : List ℕ) → length (rows_bytes word cols set xs) ≡ length xs * column_start word (length cols)
unfolding rows_bytes
rows-length word cols set [] = rw zero-mul
rows-length word cols set (x ∷ xs) =
    length-append (row_bytes word 0 (cell_words (set x) cols)) (rows_bytes word cols set xs)
    ∙ omega (arith, row-length word (length cols) (cell_words (set x) cols) (cells-length (set x) cols), rows-length word cols set xs, suc-mul (length xs) (column_start word (length cols)))

module _ (word : ℕ) (cols work : List ℕ) (index ids count : ℕ) (at : ℕ) (old : List ℕ) (inside : ids + count ≤ length work) (room : at + count * column_start word (length cols) ≤ length old) where
  abbrev all : List ℕ
  all = rows_bytes word cols (set_at index work) (seg ids count work)

  abbrev rest : ℕ → List ℕ
  rest i = rows_bytes word cols (set_at index work) (seg (ids + i) (count - i) work)

  all_room : at + length all ≤ length old
  all_room =
      let e = rows-length word cols (set_at index work) (seg ids count work) in
      let f = ap (λ (n : ℕ). n * column_start word (length cols)) (length-seg ids count work inside) in
      omega arith

  rest-step : (i : ℕ) → i < count → rest i ≡ row_bytes word 0 (cell_words (set_at index work (get_or work (ids + i) 0)) cols) ++ rest (i + 1)
  unfolding rows_bytes
  rest-step i h =
      let e : count - i ≡ suc (count - (i + 1)) = omega arith in
      let f : ids + i + 1 ≡ ids + (i + 1) = omega arith in
      rw (e, seg-cons (ids + i) (count - (i + 1)) work (omega arith), f)

  pub rows_start : Putting at all old old at (rest 0)
  rows_start =
      let e : ids + 0 ≡ ids = omega arith in
      let f : count - 0 ≡ count = omega arith in
      rw (e, f) (put-start at all old)

  module _ (new : List ℕ) (a i : ℕ) (p : Putting at all old new a (rest i)) (h : i < count) where
    -- this row lies in the output
    pub rows-room : a + column_start word (length cols) ≤ length new
    rows-room =
        let e = ap length (rest-step i h) in
        let x = get_or work (ids + i) 0 in
        omega (arith, p.long, p.end, all_room, length-append (row_bytes word 0 (cell_words (set_at index work x) cols)) (rest (i + 1)), row-length word (length cols) (cell_words (set_at index work x) cols) (cells-length (set_at index work x) cols))

    pub rows_more : (next : List ℕ) (n : ℕ) → n ≡ column_start word (length cols)
        → next ≡ over new a (column_start word (length cols)) (row_bytes word 0 (cell_words (set_at index work (get_or work (ids + i) 0)) cols)) → Putting at all old next (a + n) (rest (i + 1))
    rows_more next n k e =
        let x = get_or work (ids + i) 0 in
        let bs = row_bytes word 0 (cell_words (set_at index work x) cols) in
        rw k (put-more at all old new a bs (rest (i + 1)) next (column_start word (length cols)) all_room (rw (rest-step i h) at p) (row-length word (length cols) (cell_words (set_at index work x) cols) (cells-length (set_at index work x) cols)) e)

  pub rows-done : (new : List ℕ) (a i : ℕ) → Putting at all old new a (rest i) → count ≤ i → Put at all old new a
  unfolding rows_bytes
  rows-done new a i p h =
      let e : count - i ≡ 0 = omega arith in
      put-done at all old new a (rest i) p (rw (e, seg-none (ids + i) work))
