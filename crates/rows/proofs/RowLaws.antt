-- Laws of a row's bytes: what laying a value changes, and the tests of the code that lays them. Assumes nothing.
use mathlib.Core.Path.{◌≡◌, refl, sym, ap, ◌∙◌}
use mathlib.Core.Bool.{true}
use mathlib.Core.List.{List, [], ◌∷◌, ◌++◌, append_assoc, map}
use Prim.Native.Nat.{ℕ, zero, suc, ◌+◌, ◌-◌, ◌*◌, ◌≤◌, ◌<◌}
use native.Mathlib.Nat.{add-zero}
use native.Mathlib.Omega.{arith}
use lib.ListN.{length, get_or, take, drop, set, replicate, length-append, length-set, length-map, length-replicate, replicate-append-replicate, take-append-drop}
use lib.Seq.{take_at, drop_at, set_split, get_or-set_same, get_or-set_other, ext_get_or, length-take-le, split_at}
use borrow.Author.Tests.{eq-eqb, ne_eqb}
use Rattle.laws.specs.Bytes.{bytes_of, over}
use Rattle.laws.specs.Signed.{twos, zero_word, value}
use Rattle.laws.proofs.BytesLaws.{bytes-length}
use Rattle.laws.proofs.SignedLaws.{value-below, value-above}
use Rattle.laws.proofs.Cases.{Tri, tri}
use Rattle.laws.proofs.Cases.Tri.{below, same, above}
use Rattle.reader.specs.declared.column.Column.{Column}
use Rattle.reader.specs.declared.column.Column.TheVariants.{At, Missing}
use Rattle.reader.specs.Store.{column_start, column_width, are_columns_ok, find, absent}
use Rattle.rows.specs.Row.{Set, word_in, value_in}
use Rattle.rows.specs.Lent.{entries_at, row_bytes, cell_words, place_no, Placed}
use Rattle.reader.proofs.ColumnLaws.{at_zero, at-step, at-le}
use Rattle.reader.proofs.StoreLaws.{find-below, find_at, absent-at, ok-once, ok-below}

-- ---- bytes of a row

row_from : (word i : ℕ) (vs : List ℕ) → length (row_bytes word i vs) + column_start word i ≡ column_start word (i + length vs)
unfolding row_bytes
row_from word i [] = rw add-zero (omega arith)
row_from word i (v ∷ vs) =
    let e : i + suc (length vs) ≡ i + 1 + length vs = omega arith in
    rw (e, ← row_from word (i + 1) vs) (simp length-append (omega (arith, at-step word i, bytes-length (column_width word i) v)))

pub row-length : (word n : ℕ) (vs : List ℕ) → length vs ≡ n → length (row_bytes word 0 vs) ≡ column_start word n
row-length word n vs e =
    let z : 0 + length vs ≡ n = omega arith in
    omega (arith, at_zero word, row_from word 0 vs, ap (column_start word) z)

row-append : (word i : ℕ) (a b : List ℕ) → row_bytes word i (a ++ b) ≡ row_bytes word i a ++ row_bytes word (i + length a) b
unfolding row_bytes
row-append word i [] b = rw add-zero
row-append word i (v ∷ a) b =
    let e : i + 1 + length a ≡ i + suc (length a) = omega arith in
    rw (row-append word (i + 1) a b, e, append_assoc)

-- bytes in the middle replaced
over-mid : (x old y bs : List ℕ) (at k : ℕ) → length x ≡ at → length old ≡ k → over (x ++ (old ++ y)) at k bs ≡ x ++ (bs ++ y)
over-mid x old y bs at k p q =
    let n : length (x ++ old) ≡ at + k = simp length-append (omega arith) in
    rw (take_at x (old ++ y) at p, ← append_assoc x old y, drop_at (x ++ old) y (at + k) n)

-- a row split at column j
row-mid : (word : ℕ) (a : List ℕ) (v : ℕ) (b : List ℕ) (j : ℕ) → length a ≡ j
    → row_bytes word 0 (a ++ (v ∷ b)) ≡ row_bytes word 0 a ++ (bytes_of (column_width word j) v ++ row_bytes word (j + 1) b)
unfolding row_bytes
row-mid word a v b j e =
    let z : 0 + length a ≡ j = omega arith in
    row-append word 0 a (v ∷ b) ∙ ap (λ (k : ℕ). row_bytes word 0 a ++ row_bytes word k (v ∷ b)) z

-- one column's value replaced
pub row_put : (word : ℕ) (vs rest : List ℕ) (j v : ℕ) → j < length vs
    → over (row_bytes word 0 vs ++ rest) (column_start word j) (column_width word j) (bytes_of (column_width word j) v) ≡ row_bytes word 0 (set vs j v) ++ rest
row_put word vs rest j v h =
    let a = take j vs in
    let b = drop (suc j) vs in
    let old = get_or vs j 0 in
    let k = column_width word j in
    let x = row_bytes word 0 a in
    let y = row_bytes word (j + 1) b in
    let n : length a ≡ j = length-take-le j vs (omega arith) in
    let e1 : row_bytes word 0 vs ++ rest ≡ x ++ (bytes_of k old ++ (y ++ rest)) =
    ap (λ (l : List ℕ). row_bytes word 0 l ++ rest) (split_at vs j 0 h) ∙ rw (row-mid word a old b j n, append_assoc, append_assoc) in
    let e2 : row_bytes word 0 (set vs j v) ++ rest ≡ x ++ (bytes_of k v ++ (y ++ rest)) =
    ap (λ (l : List ℕ). row_bytes word 0 l ++ rest) (set_split vs j v h) ∙ rw (row-mid word a v b j n, append_assoc, append_assoc) in
    rw (e1, e2) (over-mid x (bytes_of k old) (y ++ rest) (bytes_of k v) (column_start word j) k (row-length word j a n) (bytes-length k old))

-- ---- a row of zeros

zero-bytes : (k : ℕ) → bytes_of k 0 ≡ replicate k 0
unfolding bytes_of
zero-bytes zero = refl
zero-bytes (suc k) = rw (zero-bytes k) (let e : k + 1 ≡ suc k = omega arith in replicate-append-replicate k 1 0 ∙ ap (λ (n : ℕ). replicate n 0) e)

zero-cell : (r : ℕ) → twos 4 (value_in [] r) ≡ 0
unfolding twos value word_in
zero-cell r = refl

zero-from : (word i : ℕ) (cols : List ℕ) → row_bytes word i (cell_words [] cols) ≡ replicate (column_start word (i + length cols) - column_start word i) 0
unfolding row_bytes
zero-from word i [] =
    let e : column_start word (i + 0) - column_start word i ≡ 0 = rw add-zero (omega arith) in
    rw e
zero-from word i (r ∷ cols) =
    let k = column_width word i in
    let e : i + suc (length cols) ≡ i + 1 + length cols = omega arith in
    let n : column_start word (i + 1 + length cols) - column_start word i ≡ k + (column_start word (i + 1 + length cols) - column_start word (i + 1)) =
    omega (arith, at-step word i, at-le word (i + 1) (i + 1 + length cols) (omega arith)) in
    rw (zero-cell r, zero-bytes k, e, n, zero-from word (i + 1) cols) (replicate-append-replicate k (column_start word (i + 1 + length cols) - column_start word (i + 1)) 0)

pub zero_row : (word : ℕ) (cols : List ℕ) → row_bytes word 0 (cell_words [] cols) ≡ replicate (column_start word (length cols)) 0
zero_row word cols =
    let e : column_start word (0 + length cols) - column_start word 0 ≡ column_start word (length cols) =
    omega (arith, at_zero word, ap (column_start word) (let z : 0 + length cols ≡ length cols = omega arith in z)) in
    zero-from word 0 cols ∙ ap (λ (n : ℕ). replicate n 0) e

-- ---- one entry more

pub get_or-map : (f : ℕ → ℕ) (l : List ℕ) (k : ℕ) → k < length l → get_or (map f l) k 0 ≡ f (get_or l k 0)
get_or-map f [] k h = absurd (omega arith)
get_or-map f (x ∷ l) zero h = refl
get_or-map f (x ∷ l) (suc k) h = get_or-map f l k (omega arith)

word-here : (r w : ℕ) (l : Set) (q : ℕ) → q ≡ r → value_in ((r, w) ∷ l) q ≡ value w
unfolding word_in
word-here r w l q e = rw (eq-eqb r q (sym e))

word-there : (r w : ℕ) (l : Set) (q : ℕ) → (q ≡ r → ⊥) → value_in ((r, w) ∷ l) q ≡ value_in l q
unfolding word_in
word-there r w l q n = rw (ne_eqb r q (λ e. n (sym e)))

-- its region has no column
pub cells-skip : (r w : ℕ) (l : Set) (cols : List ℕ) → find r 0 cols ≡ Missing → cell_words ((r, w) ∷ l) cols ≡ cell_words l cols
cells-skip r w l cols m =
    let f : ℕ → ℕ = (λ q. twos 4 (value_in ((r, w) ∷ l) q)) in
    let g : ℕ → ℕ = (λ q. twos 4 (value_in l q)) in
    ext_get_or 0 (map f cols) (map g cols) (length-map cols f ∙ sym (length-map cols g))
    (λ k h.
    let b : k < length cols = omega (arith, length-map cols f) in
    get_or-map f cols k b ∙ ap (twos 4) (word-there r w l (get_or cols k 0) (absent-at r 0 cols (ap absent m) k b)) ∙ sym (get_or-map g cols k b))

-- or it has column j
pub cells-put : (n r w : ℕ) (l : Set) (cols : List ℕ) (j : ℕ) → are_columns_ok n cols ≡ true → find r 0 cols ≡ At j
    → cell_words ((r, w) ∷ l) cols ≡ set (cell_words l cols) j (twos 4 (value w))
cells-put n r w l cols j ok m =
    let f : ℕ → ℕ = (λ q. twos 4 (value_in ((r, w) ∷ l) q)) in
    let g : ℕ → ℕ = (λ q. twos 4 (value_in l q)) in
    let v = twos 4 (value w) in
    let at : get_or cols j 0 ≡ r = (let z : j - 0 ≡ j = omega arith in rw z at (find_at r 0 cols j m).1) in
    let low : j < length cols = omega (arith, find-below r 0 cols j m) in
    ext_get_or 0 (map f cols) (set (map g cols) j v) (length-map cols f ∙ sym (length-set (map g cols) j v ∙ length-map cols g))
    (λ k h.
    let b : k < length cols = omega (arith, length-map cols f) in
    get_or-map f cols k b ∙ go k b at low (tri k j))
  where
    go : (k : ℕ) → k < length cols → get_or cols j 0 ≡ r → j < length cols → Tri k j
        → twos 4 (value_in ((r, w) ∷ l) (get_or cols k 0)) ≡ get_or (set (map (λ q. twos 4 (value_in l q)) cols) j (twos 4 (value w))) k 0
    go k b at low (same e) =
        let g : ℕ → ℕ = (λ q. twos 4 (value_in l q)) in
        rw e (ap (twos 4) (word-here r w l (get_or cols j 0) at) ∙ sym (get_or-set_same (map g cols) j (twos 4 (value w)) 0 (omega (arith, length-map cols g))))
    go k b at low (below p) =
        let g : ℕ → ℕ = (λ q. twos 4 (value_in l q)) in
        let d : get_or cols k 0 ≡ r → ⊥ = (λ e. ok-once n cols ok k j p low (at ∙ sym e)) in
        ap (twos 4) (word-there r w l (get_or cols k 0) d) ∙ sym (get_or-set_other (map g cols) j k (twos 4 (value w)) 0 (omega arith) ∙ get_or-map g cols k b)
    go k b at low (above p) =
        let g : ℕ → ℕ = (λ q. twos 4 (value_in l q)) in
        let d : get_or cols k 0 ≡ r → ⊥ = (λ e. ok-once n cols ok j k p b (e ∙ sym at)) in
        ap (twos 4) (word-there r w l (get_or cols k 0) d) ∙ sym (get_or-set_other (map g cols) j k (twos 4 (value w)) 0 (omega arith) ∙ get_or-map g cols k b)

-- ---- laying a set into its row, from the last entry to the first

entries-step : (start count i : ℕ) (work : List ℕ) → 0 < i → i ≤ count
    → entries_at (start + 2 * (i - 1)) (count - (i - 1)) work
    ≡ (get_or work (start + 2 * (i - 1)) 0, get_or work (start + 2 * (i - 1) + 1) 0) ∷ entries_at (start + 2 * i) (count - i) work
unfolding entries_at
entries-step start count i work p h =
    let e : count - (i - 1) ≡ suc (count - i) = omega arith in
    let f : start + 2 * (i - 1) + 2 ≡ start + 2 * i = omega arith in
    rw (e, f)

-- the entries from i on are laid
pub record Laying (word : ℕ) (cols work : List ℕ) (start count : ℕ) (old row : List ℕ) (i : ℕ) : Type 0 where
  pub within : i ≤ count
  pub long : length row ≡ length old
  pub is : row ≡ row_bytes word 0 (cell_words (entries_at (start + 2 * i) (count - i) work) cols) ++ drop (column_start word (length cols)) old

module _ (word : ℕ) (cols work : List ℕ) (start count : ℕ) (old : List ℕ) where
  pub lay-start : take (column_start word (length cols)) old ≡ row_bytes word 0 (cell_words [] cols) → Laying word cols work start count old old count
  unfolding entries_at
  lay-start e =
      let z : count - count ≡ 0 = omega arith in
      record {
        within = omega arith;
        long = refl;
        is = sym (take-append-drop (column_start word (length cols)) old) ∙ rw (e, z);
      }

  module _ (row : List ℕ) (i : ℕ) (l : Laying word cols work start count old row i) (p : 0 < i) where
    pub lay-skip : find (get_or work (start + 2 * (i - 1)) 0) 0 cols ≡ Missing → Laying word cols work start count old row (i - 1)
    lay-skip m =
        let r = get_or work (start + 2 * (i - 1)) 0 in
        let w = get_or work (start + 2 * (i - 1) + 1) 0 in
        record {
          within = omega (arith, l.within);
          long = l.long;
          is = l.is ∙ rw (entries-step start count i work p l.within, cells-skip r w (entries_at (start + 2 * i) (count - i) work) cols m);
        }

    pub lay-put : (new : List ℕ) (n j : ℕ) → are_columns_ok n cols ≡ true → find (get_or work (start + 2 * (i - 1)) 0) 0 cols ≡ At j
        → new ≡ over row (column_start word j) (column_width word j) (bytes_of (column_width word j) (twos 4 (value (get_or work (start + 2 * (i - 1) + 1) 0))))
        → length new ≡ length row → Laying word cols work start count old new (i - 1)
    lay-put new n j ok m e k =
        let r = get_or work (start + 2 * (i - 1)) 0 in
        let w = get_or work (start + 2 * (i - 1) + 1) 0 in
        let set = entries_at (start + 2 * i) (count - i) work in
        let low : j < length (cell_words set cols) = omega (arith, find-below r 0 cols j m, length-map cols (λ q. twos 4 (value_in set q))) in
        record {
          within = omega (arith, l.within);
          long = k ∙ l.long;
          is =
              e
              ∙ ap (λ (x : List ℕ). over x (column_start word j) (column_width word j) (bytes_of (column_width word j) (twos 4 (value w)))) l.is
              ∙ row_put word (cell_words set cols) (drop (column_start word (length cols)) old) j (twos 4 (value w)) low
              ∙ rw (entries-step start count i work p l.within, cells-put n r w set cols j ok m);
        }

-- ---- the code's tests

pub place_out : (cols places : List ℕ) (r : ℕ) → Placed cols places → length places ≤ r → Missing ≡ find r 0 cols
place_out cols places r p h = go (find r 0 cols) refl
  where
    go : (c : Column) → find r 0 cols ≡ c → Missing ≡ c
    go Missing e = refl
    go (At j) e =
        let b : j < length cols = omega (arith, find-below r 0 cols j e) in
        let z : j - 0 ≡ j = omega arith in
        let a : get_or cols j 0 ≡ r = rw z at (find_at r 0 cols j e).1 in
        absurd (omega (arith, ok-below (length places) cols p.ok j b))

pub place_none : (cols places : List ℕ) (r : ℕ) → Placed cols places → r < length places → get_or places r 0 ≡ 0 → Missing ≡ find r 0 cols
unfolding place_no
place_none cols places r p h e = go (find r 0 cols) (sym (p.at r h) ∙ e)
  where
    go : (c : Column) → place_no c ≡ 0 → Missing ≡ c
    go Missing e = refl
    go (At j) e = absurd (omega arith)

pub place-some : (cols places : List ℕ) (r : ℕ) → Placed cols places → r < length places → (get_or places r 0 ≡ 0 → ⊥) → At (get_or places r 0 - 1) ≡ find r 0 cols
unfolding place_no
place-some cols places r p h n = go (find r 0 cols) (p.at r h)
  where
    go : (c : Column) → get_or places r 0 ≡ place_no c → At (get_or places r 0 - 1) ≡ c
    go Missing e = absurd (n e)
    go (At j) e = ap At (omega arith)

pub twos-below : (w : ℕ) → w < zero_word → w + zero_word ≡ twos 4 (value w)
unfolding twos
twos-below w h = rw (value-below w h) (omega arith)

pub twos-above : (w : ℕ) → zero_word ≤ w → w - zero_word ≡ twos 4 (value w)
unfolding twos
twos-above w h = rw (value-above w h)

-- a row that was cleared: n is its length as the code has it
pub cleared-take : (word : ℕ) (cols old new : List ℕ) (n : ℕ) → n ≡ column_start word (length cols) → new ≡ replicate n 0 ++ drop n old
    → take (column_start word (length cols)) new ≡ row_bytes word 0 (cell_words [] cols)
cleared-take word cols old new n e f =
    rw (zero_row word cols, ← e, f) (take_at (replicate n 0) (drop n old) n (length-replicate n 0))
