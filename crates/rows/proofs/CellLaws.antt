-- A row of the definition, as it is written. Assumes nothing.
use mathlib.Core.Path.{◌≡◌, refl}
use mathlib.Core.List.{List, [], ◌∷◌}
use Prim.Native.Nat.{ℕ, suc, ◌+◌, ◌<◌}
use native.Mathlib.Nat.{add-zero}
use native.Mathlib.Omega.{arith}
use lib.ListN.{length, get_or, length-map}
use Rattle.laws.specs.Signed.{twos}
use Rattle.shapes.specs.Shape.{Shape}
use Rattle.reader.specs.Store.{column_start, column_width}
use Rattle.rows.specs.Columns.{columns_of, word_count, bytes_for_width}
use Rattle.rows.specs.Row.{Set, value_in, cells_of, row_of}
use Rattle.rows.specs.Lent.{row_bytes, cell_words}
use Rattle.rows.proofs.RowLaws.{row-length}
use Rattle.rows.proofs.ColumnsLaws.{bytes-are}

-- a row of the definition is the columns' words, each at the width that the word count gives its column
cells-from : (s : Shape) (set : Set) (word i : ℕ) (rs : List ℕ) → ((j : ℕ) → j < length rs → column_width word (i + j) ≡ bytes_for_width s (get_or s (get_or rs j 0) 0))
    → cells_of s set rs ≡ row_bytes word i (cell_words set rs)
unfolding cells_of row_bytes
cells-from s set word i [] h = refl
cells-from s set word i (r ∷ rs) h =
    let e : column_width word i ≡ bytes_for_width s (get_or s r 0) = rw add-zero at (h 0 (omega arith)) in
    rw (e, cells-from s set word (i + 1) rs (λ j l. (let z : i + 1 + j ≡ i + suc j = omega arith in rw z (h (suc j) (omega arith)))))

pub row_is : (s : Shape) (set : Set) → length s < 32768 → row_of s set ≡ row_bytes (word_count s) 0 (cell_words set (columns_of s))
unfolding row_of
row_is s set few =
    cells-from s set (word_count s) 0 (columns_of s)
    (λ j l. (let z : 0 + j ≡ j = omega arith in rw z (bytes-are s few j l)))

pub row-long : (s : Shape) (set : Set) → length s < 32768 → length (row_of s set) ≡ column_start (word_count s) (length (columns_of s))
row-long s set few =
    rw (row_is s set few) (row-length (word_count s) (length (columns_of s)) (cell_words set (columns_of s)) (length-map (columns_of s) (λ q. twos 4 (value_in set q))))
