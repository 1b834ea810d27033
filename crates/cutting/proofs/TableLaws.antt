-- One subtable written: head, columns, rows. Assumes nothing.
use mathlib.Core.Path.{◌≡◌, sym, ap, ◌∙◌}
use mathlib.Core.List.{List, [], ◌++◌}
use Prim.Native.Nat.{ℕ, ◌+◌, ◌-◌, ◌*◌, ◌%◌, ◌≤◌, ◌<◌}
use native.Mathlib.Omega.{arith}
use lib.ListN.{length, get_or, length-append}
use Rattle.laws.specs.Bytes.{be, bytes_of, over}
use Rattle.laws.specs.LentRange.{seg}
use Rattle.laws.proofs.BytesLaws.{bytes-length}
use Rattle.laws.proofs.Products.{row_fits}
use Rattle.laws.proofs.RangeLaws.{length-seg}
use Rattle.reader.specs.Store.{column_start, item_count, word_at, column_count}
use Rattle.rows.specs.Lent.{Put, head_bytes}
use Rattle.rows.proofs.PutLaws.{Putting, put-join, put-long}
use Rattle.stores.specs.Stores.{rows_at, row_long}
use Rattle.cutting.specs.LentCut.{start_of, rows_of, table_of, TableFit, CutIs, NamesFit, TableNamed, columns_put, rows_put, cut_bytes, cut_size}
use Rattle.cutting.proofs.PieceLaws.{pieces, rest, pieces-start, pieces-over, pieces_more, pieces_room, pieces-done, pieces-long}
use Rattle.cutting.proofs.CutLaws.{fits}

-- ---- columns

module _ (s : List ℕ) (from n : ℕ) (w : List ℕ) (m at : ℕ) (old : List ℕ) where
  abbrev column : ℕ → List ℕ
  column j = bytes_of 2 (get_or w (m + be 2 s (from + 2 * j)) 0 - 1)

  columns-size : length (pieces column n) ≡ n * 2
  columns-size = pieces-long column 2 0 n (λ i p q. bytes-length 2 (get_or w (m + be 2 s (from + 2 * i)) 0 - 1))

  -- j of them are written
  pub record ColumnsAt (new : List ℕ) (p j : ℕ) : Type 0 where
    pub within : j ≤ n
    pub spot : p ≡ at + 2 * j
    pub put : Putting at (pieces column n) old new p (rest column n j)

  pub names_more : at + 2 * n ≤ length old → (new next : List ℕ) (p j r : ℕ) → ColumnsAt new p j → j < n → r ≡ be 2 s (from + 2 * j)
      → next ≡ over new p 2 (bytes_of 2 (get_or w (m + r) 0 - 1)) → ColumnsAt next (p + 2) (j + 1)
  names_more room new next p j r c h e o = record {
    within = omega arith;
    spot = omega (arith, c.spot);
    put = pieces-over column n at old (omega (arith, columns-size)) new p j c.put h next 2 (bytes-length 2 (get_or w (m + be 2 s (from + 2 * j)) 0 - 1)) (o ∙ rw e);
  }

  pub names-done : (new : List ℕ) (p j : ℕ) → ColumnsAt new p j → n ≤ j → Put at (columns_put s from n w m) old new p
  unfolding columns_put
  names-done new p j c h = pieces-done column n at old new p j c.put h

pub columns-long : (s : List ℕ) (from n : ℕ) (w : List ℕ) (m : ℕ) → length (columns_put s from n w m) ≡ 2 * n
unfolding columns_put
columns-long s from n w m = columns-size s from n w m 0 [] ∙ omega arith

-- ---- rows

abbrev row : List ℕ → ℕ → ℕ → List ℕ → ℕ → ℕ → List ℕ
row s first long w from i = seg (first + get_or w (from + i) 0 % 65536 * long) long s

-- i of them are written
pub record RowsAt (s : List ℕ) (first long : ℕ) (w : List ℕ) (from count at : ℕ) (old new : List ℕ) (p i : ℕ) : Type 0 where
  pub put : Putting at (pieces (row s first long w from) count) old new p (rest (row s first long w from) count i)

module _ (s : List ℕ) (first long : ℕ) (w : List ℕ) (from count at : ℕ) (old : List ℕ)
    (inside : (i : ℕ) → i < count → first + get_or w (from + i) 0 % 65536 * long + long ≤ length s) where
  row-size : (i : ℕ) → i < count → length (row s first long w from i) ≡ long
  row-size i h = length-seg (first + get_or w (from + i) 0 % 65536 * long) long s (inside i h)

  rows-size : length (pieces (row s first long w from) count) ≡ count * long
  rows-size = pieces-long (row s first long w from) long 0 count (λ i p q. row-size i (omega arith))

  pub rows_start : RowsAt s first long w from count at old old at 0
  rows_start = record { put = pieces-start (row s first long w from) count at old }

  module _ (room : at + count * long ≤ length old) (new : List ℕ) (p i x : ℕ) (r : RowsAt s first long w from count at old new p i) (h : i < count) (e : x ≡ get_or w (from + i) 0) where
    pub row_room : p + long ≤ length new
    row_room = omega (arith, pieces_room (row s first long w from) count at old (omega (arith, rows-size)) new p i r.put h, row-size i h)

    pub row_in : first + x % 65536 * long + long ≤ length s
    row_in = rw e (inside i h)

    pub rows_more : (next : List ℕ) (q : ℕ) → Put p (seg (first + x % 65536 * long) long s) new next q → RowsAt s first long w from count at old next q (i + 1)
    rows_more next q k = record { put = pieces_more (row s first long w from) count at old (omega (arith, rows-size)) new p i r.put h next q (rw e at k) }

  pub rows-done : (new : List ℕ) (p i : ℕ) → RowsAt s first long w from count at old new p i → count ≤ i → Put at (rows_put s first long w from count) old new p
  unfolding rows_put
  rows-done new p i r h = pieces-done (row s first long w from) count at old new p i r.put h

pub rows_long : (s : List ℕ) (first long : ℕ) (w : List ℕ) (from count : ℕ) → ((i : ℕ) → i < count → first + get_or w (from + i) 0 % 65536 * long + long ≤ length s)
    → length (rows_put s first long w from count) ≡ count * long
unfolding rows_put
rows_long s first long w from count inside = rows-size s first long w from count 0 [] inside

-- ---- the subtable

head-long : (a b c : ℕ) → length (head_bytes a b c) ≡ 6
head-long a b c = length-append (bytes_of 2 a) (bytes_of 2 b ++ bytes_of 2 c) ∙ omega (arith, length-append (bytes_of 2 b) (bytes_of 2 c), bytes-length 2 a, bytes-length 2 b, bytes-length 2 c)

module _ {s : List ℕ} {n : ℕ} {w : List ℕ} {g : ℕ} (f : TableFit s n w g) where
  abbrev t : ℕ
  t = table_of s n w g

  -- its rows lie in the store
  rows_in : (i : ℕ) → i < rows_of n w g → rows_at s t + get_or w (start_of n w g + i) 0 % 65536 * row_long s t + row_long s t ≤ length s
  rows_in i h =
      let a = f.inner (start_of n w g + i) (omega arith) (omega arith) in
      let b = row_fits (row_long s t) (item_count s t) (get_or w (start_of n w g + i) 0 % 65536) a in
      omega (arith, (fits f).rows)

  pub cut-long : length (cut_bytes s n w g) ≡ cut_size s n w g
  unfolding cut_bytes cut_size
  cut-long =
      let c = columns_put s (t + 6) (column_count s t) w (3 * n + 1) in
      let r = rows_put s (rows_at s t) (row_long s t) w (start_of n w g) (rows_of n w g) in
      length-append (head_bytes (rows_of n w g) (word_at s t) (column_count s t)) (c ++ r)
      ∙ omega (arith, head-long (rows_of n w g) (word_at s t) (column_count s t), length-append c r, columns-long s (t + 6) (column_count s t) w (3 * n + 1), rows_long s (rows_at s t) (row_long s t) w (start_of n w g) (rows_of n w g) rows_in)

  module _ {at word columns from rows : ℕ} (c : CutIs s n w g at word columns from rows) (start : ℕ) (o : List ℕ) (room : start + length (cut_bytes s n w g) ≤ length o) where
    size : length (cut_bytes s n w g) ≡ 6 + 2 * columns + rows * column_start word columns
    size = cut-long ∙ (unfold cut_size in rw (← c.word-is, ← c.columns-is, ← c.rows_is))

    pub head-room : start + 6 ≤ length o
    head-room = omega (arith, size)

    pub columns-in : at + 6 + 2 * columns ≤ length s
    columns-in = omega (arith, (fits f).rows, c.at-is, c.columns-is)

    pub names_in : TableNamed s n w g → NamesFit s (at + 6) columns w (3 * n + 1)
    names_in k = rw (← c.columns-is, ← c.at-is) at k

    module _ {p1 : List ℕ} {r1 : ℕ} (a : Put start (head_bytes rows word columns) o p1 r1) where
      long₁ : length p1 ≡ length o
      long₁ = put-long start (head_bytes rows word columns) o p1 r1 a (omega (arith, head-long rows word columns, head-room))

      end₁ : r1 ≡ start + 6
      end₁ = omega (arith, a.end, head-long rows word columns)

      pub columns-room : r1 + 2 * columns ≤ length p1
      columns-room = omega (arith, long₁, end₁, size)

      module _ {p2 : List ℕ} {r2 : ℕ} (b : Put r1 (columns_put s (at + 6) columns w (3 * n + 1)) p1 p2 r2) (long : ℕ) (l : long ≡ column_start word columns) where
        cols-size : length (columns_put s (at + 6) columns w (3 * n + 1)) ≡ 2 * columns
        cols-size = columns-long s (at + 6) columns w (3 * n + 1)

        long₂ : length p2 ≡ length o
        long₂ = put-long r1 (columns_put s (at + 6) columns w (3 * n + 1)) p1 p2 r2 b (omega (arith, columns-room, cols-size)) ∙ long₁

        end₂ : r2 ≡ start + 6 + 2 * columns
        end₂ = omega (arith, b.end, cols-size, end₁)

        total : rows * column_start word columns ≡ rows * long
        total = ap (λ (x : ℕ). rows * x) (sym l)

        pub rows-room : r2 + rows * long ≤ length p2
        rows-room = omega (arith, long₂, end₂, size, total)

        pub words-in : from + rows ≤ length w
        words-in = omega (arith, c.from_is, c.rows_is, f.up, f.top, f.starts)

        long-is : long ≡ row_long s t
        long-is = l ∙ rw (← c.word-is, ← c.columns-is)

        first-is : at + 6 + 2 * columns ≡ rows_at s t
        first-is = rw (← c.columns-is, ← c.at-is)

        pub rows_inside : (i : ℕ) → i < rows → at + 6 + 2 * columns + get_or w (from + i) 0 % 65536 * long + long ≤ length s
        rows_inside i h = rw (first-is, long-is, c.from_is) (rows_in i (omega (arith, c.rows_is)))

        module _ {p3 : List ℕ} {r3 : ℕ} (d : Put r2 (rows_put s (at + 6 + 2 * columns) long w from rows) p2 p3 r3) where
          rows-size₃ : length (rows_put s (at + 6 + 2 * columns) long w from rows) ≡ rows * long
          rows-size₃ = rows_long s (at + 6 + 2 * columns) long w from rows rows_inside

          bytes-are : head_bytes rows word columns ++ (columns_put s (at + 6) columns w (3 * n + 1) ++ rows_put s (at + 6 + 2 * columns) long w from rows) ≡ cut_bytes s n w g
          unfolding cut_bytes
          bytes-are = rw (long-is, first-is, c.at-is, c.word-is, c.columns-is, c.from_is, c.rows_is)

          pub table-put : Put start (cut_bytes s n w g) o p3 r3
          table-put =
              let x = columns_put s (at + 6) columns w (3 * n + 1) in
              let y = rows_put s (at + 6 + 2 * columns) long w from rows in
              let j = put-join r1 x y p1 p2 p3 r2 r3 b d (omega (arith, long₁, end₁, size, total, cols-size, rows-size₃)) in
              rw bytes-are at (put-join start (head_bytes rows word columns) (x ++ y) o p1 p3 r1 r3 a j
              (omega (arith, size, total, head-long rows word columns, length-append x y, cols-size, rows-size₃)))
