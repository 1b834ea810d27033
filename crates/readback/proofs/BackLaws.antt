-- What is written reads back: one row. Assumes nothing.
use mathlib.Core.Path.{◌≡◌, sym}
use mathlib.Core.Bool.{true}
use mathlib.Core.List.{List, [], ◌∷◌, ◌++◌, append_assoc}
use mathlib.Core.Logic.{⊎_elim}
use Prim.Native.Nat.{ℕ, zero, suc, ◌+◌, ◌-◌, ◌%◌, ◌^◌, ◌≤◌, ◌<◌}
use native.Mathlib.Nat.{add-zero}
use native.Mathlib.Decide.{dec_lt}
use native.Mathlib.Omega.{arith}
use lib.IntN.{pos, negsuc}
use lib.ListN.{length, get_or, length-append, length-map}
use borrow.Author.Tests.{lt-ltb, le-ltb, eq-eqb, ne_eqb}
use Rattle.laws.specs.Bytes.{be, bytes_of}
use Rattle.laws.specs.Signed.{fits, twos, zero_word, value}
use Rattle.laws.proofs.BytesLaws.{bytes-length, be-bytes}
use Rattle.laws.proofs.SignedLaws.{sign-back, value-below, value-above, mag-fits}
use Rattle.laws.proofs.Cases.{lt-or-ge}
use Rattle.shapes.specs.Shape.{Shape}
use Rattle.shapes.proofs.WidthLaws.{width-holds}
use Rattle.reader.specs.Store.{column_start, column_width}
use Rattle.reader.proofs.ColumnLaws.{at_zero, at-step, bytes-range}
use Rattle.stores.specs.Stores.{cell_in}
use Rattle.rows.specs.Columns.{columns_of, fours, word_count, bytes_for_width}
use Rattle.rows.specs.Row.{Set, value_in, row_of, Widths, Covers}
use Rattle.rows.specs.Lent.{row_bytes, cell_words}
use Rattle.rows.proofs.RowLaws.{get_or-map}
use Rattle.rows.proofs.ColumnsLaws.{bytes-are}
use Rattle.rows.proofs.CellLaws.{row_is}

-- ---- a column of a written row

reads-from : (pre : List ℕ) (word i : ℕ) (vs : List ℕ) (j : ℕ) → length pre ≡ column_start word i → j < length vs
    → be (column_width word (i + j)) (pre ++ row_bytes word i vs) (column_start word (i + j)) ≡ get_or vs j 0 % 256 ^ column_width word (i + j)
unfolding row_bytes
reads-from pre word i [] j n h = absurd (omega arith)
reads-from pre word i (v ∷ vs) zero n h = rw add-zero (be-bytes pre (row_bytes word (i + 1) vs) (column_width word i) v (column_start word i) n)
reads-from pre word i (v ∷ vs) (suc j) n h =
    let k = column_width word i in
    let e : i + suc j ≡ i + 1 + j = omega arith in
    let m : length (pre ++ bytes_of k v) ≡ column_start word (i + 1) = simp length-append (omega (arith, at-step word i, bytes-length k v)) in
    rw (e, ← append_assoc pre (bytes_of k v)) (reads-from (pre ++ bytes_of k v) word (i + 1) vs j m (omega arith))

row_reads : (word : ℕ) (vs : List ℕ) (j : ℕ) → j < length vs → be (column_width word j) (row_bytes word 0 vs) (column_start word j) ≡ get_or vs j 0 % 256 ^ column_width word j
row_reads word vs j h =
    let e : 0 + j ≡ j = omega arith in
    rw e at (reads-from [] word 0 vs j (sym (at_zero word)) h)

-- ---- a covering shape cuts nothing off

word_fits : (w : ℕ) → w < 256 ^ 4 → fits 4 (value w) ≡ true
word_fits w h = go (dec_lt w zero_word)
  where
    go : Dec (w < zero_word) → fits 4 (value w) ≡ true
    go (yes p) = rw (value-below w p) (mag-fits 4 (negsuc (zero_word - suc w)) (omega arith))
    go (no p) = rw (value-above w (omega arith)) (mag-fits 4 (pos (w - zero_word)) (omega arith))

bytes-more : (s : Shape) (w : ℕ) → w ≤ 4 → (w ≡ 3 → ⊥) → w ≤ bytes_for_width s w
unfolding bytes_for_width
bytes-more s w h n = ⊎_elim
    (λ (p : 0 < fours s). ⊎_elim
    (λ (q : w < 4). rw (lt-ltb 0 (fours s) p, ne_eqb w 4 (omega arith)) (omega arith))
    (λ (q : 4 ≤ w). rw (lt-ltb 0 (fours s) p, eq-eqb w 4 (omega arith)) h)
    (lt-or-ge w 4))
    (λ (p : fours s ≤ 0). rw (le-ltb 0 (fours s) p) (omega arith))
    (lt-or-ge 0 (fours s))

-- what column j of a written row reads is the value that the set has for its region, sign included
pub row_back : (s : Shape) (set : Set) (j : ℕ) → length s < 32768 → Widths s → Covers s set → j < length (columns_of s)
    → cell_in (word_count s) (row_of s set) j ≡ value_in set (get_or (columns_of s) j 0)
unfolding cell_in
row_back s set j few ws cov h =
    let word = word_count s in
    let cols = columns_of s in
    let r = get_or cols j 0 in
    let k = column_width word j in
    let range = bytes-range word j in
    let g : ℕ → ℕ = (λ q. twos 4 (value_in set q)) in
    let more : get_or s r 0 ≤ k = rw (bytes-are s few j h) (bytes-more s (get_or s r 0) (ws.most r) (ws.one_of r)) in
    let f : fits k (value_in set r) ≡ true = width-holds (value_in set r) k (word_fits _ (cov.word r)) range.0 (omega (arith, cov.holds r)) in
    let low : j < length (cell_words set cols) = omega (arith, length-map cols g) in
    rw (row_is s set few, row_reads word (cell_words set cols) j low, get_or-map g cols j h) (sign-back k 4 (value_in set r) range.0 range.1 f)
