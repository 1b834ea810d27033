-- Rows put block by block. Assumes nothing.
use mathlib.Core.Path.{◌≡◌, refl, sym, ap, ◌∙◌}
use mathlib.Core.List.{List, [], ◌∷◌, ◌++◌, append_assoc}
use Prim.Native.Nat.{ℕ, ◌+◌, ◌-◌, ◌*◌, ◌≤◌}
use native.Mathlib.Omega.{arith}
use lib.ListN.{length, length-append}
use Rattle.laws.specs.LentRange.{seg}
use Rattle.laws.proofs.RangeLaws.{seg-add, length-seg}
use Rattle.reader.specs.Store.{column_start}
use Rattle.rows.specs.Row.{Set}
use Rattle.rows.specs.Lent.{Put, set_at, row_bytes, cell_words, rows_bytes}
use Rattle.rows.proofs.PutLaws.{Putting, put-more, rows-length}

rows_append : (word : ℕ) (cols : List ℕ) (set : ℕ → Set) (xs ys : List ℕ)
    → rows_bytes word cols set (xs ++ ys) ≡ rows_bytes word cols set xs ++ rows_bytes word cols set ys
unfolding rows_bytes
rows_append word cols set [] ys = refl
rows_append word cols set (x ∷ xs) ys =
    ap (λ (l : List ℕ). row_bytes word 0 (cell_words (set x) cols) ++ l) (rows_append word cols set xs ys)
    ∙ sym (append_assoc (row_bytes word 0 (cell_words (set x) cols)) (rows_bytes word cols set xs) (rows_bytes word cols set ys))

module _ (word : ℕ) (cols work : List ℕ) (index ids count : ℕ) (at : ℕ) (old : List ℕ) (inside : ids + count ≤ length work) (room : at + count * column_start word (length cols) ≤ length old) where
  abbrev all : List ℕ
  all = rows_bytes word cols (set_at index work) (seg ids count work)

  -- the rows from row i on
  abbrev rest : ℕ → List ℕ
  rest i = rows_bytes word cols (set_at index work) (seg (ids + i) (count - i) work)

  -- those from row i up to row j
  abbrev block : ℕ → ℕ → List ℕ
  block i j = rows_bytes word cols (set_at index work) (seg (ids + i) (j - i) work)

  all_room : at + length all ≤ length old
  all_room =
      let e = rows-length word cols (set_at index work) (seg ids count work) in
      let f = ap (λ (n : ℕ). n * column_start word (length cols)) (length-seg ids count work inside) in
      omega arith

  module _ (new : List ℕ) (a i : ℕ) (p : Putting at all old new a (rest i)) (j : ℕ) (from : i ≤ j) (most : j ≤ count) where
    rest-block : rest i ≡ block i j ++ rest j
    rest-block =
        let e : count - i ≡ (j - i) + (count - j) = omega arith in
        let f : ids + i + (j - i) ≡ ids + j = omega arith in
        rw (e, seg-add (ids + i) (j - i) (count - j) work, f) (rows_append word cols (set_at index work) (seg (ids + i) (j - i) work) (seg (ids + j) (count - j) work))

    block-long : length (block i j) ≡ (j - i) * column_start word (length cols)
    block-long = rows-length word cols (set_at index work) (seg (ids + i) (j - i) work)
        ∙ ap (λ (n : ℕ). n * column_start word (length cols)) (length-seg (ids + i) (j - i) work (omega arith))

    -- the block lies in the output
    pub block_room : a + (j - i) * column_start word (length cols) ≤ length new
    block_room = omega (arith, p.long, p.end, all_room, ap length rest-block, length-append (block i j) (rest j), block-long)

    pub block_more : (next : List ℕ) (r : ℕ) → Put a (block i j) new next r → Putting at all old next r (rest j)
    block_more next r q = rw q.end (put-more at all old new a (block i j) (rest j) next (length (block i j)) all_room (rw rest-block at p) refl q.is)
