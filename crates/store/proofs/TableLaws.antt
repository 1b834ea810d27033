-- One subtable of the definition, by the bytes that the code writes. Assumes nothing.
use mathlib.Core.Path.{◌≡◌, refl, ap, ◌∙◌}
use mathlib.Core.List.{List, [], ◌∷◌, ◌++◌, append_assoc, map}
use mathlib.Core.Logic.{⊎_elim}
use Prim.Native.Nat.{ℕ, ◌<◌}
use lib.ListN.{length, length-map}
use borrow.Author.Tests.{eq-eqb, ne_eqb}
use Rattle.laws.proofs.ListLaws.{map_same}
use Rattle.laws.specs.Bytes.{bytes_of}
use Rattle.laws.specs.Joining.{join_all}
use Rattle.laws.proofs.Cases.{same_or_not}
use Rattle.laws.proofs.EveryLaws.{all-imp}
use Rattle.shapes.specs.Shape.{Shape}
use Rattle.reader.specs.Store.{column_start}
use Rattle.stores.specs.Stores as value
use Rattle.rows.specs.Columns.{columns_of, word_count}
use Rattle.rows.specs.Row.{Set, row_of}
use Rattle.rows.specs.Lent.{index_bytes, rows_bytes, table_bytes}
use Rattle.rows.proofs.ColumnsLaws.{columns-in}
use Rattle.rows.proofs.CellLaws.{row_is}
use Rattle.rows.proofs.RunLaws.{table_none, table-length}
use Rattle.store.specs.Placing.{slot_of}
use Rattle.store.specs.Lent.{subtable_of, subtable_size}

index-are : (number : ℕ → ℕ) (cols : List ℕ) → join_all (map (bytes_of 2) (map number cols)) ≡ index_bytes number cols
unfolding join_all index_bytes
index-are number [] = refl
index-are number (c ∷ cols) = rw (index-are number cols)

rows_are : (s : Shape) (set : ℕ → Set) (xs : List ℕ) → length s < 32768 → join_all (map (λ y. row_of s (set y)) xs) ≡ rows_bytes (word_count s) (columns_of s) set xs
unfolding join_all rows_bytes
rows_are s set [] few = refl
rows_are s set (x ∷ xs) few = rw (row_is s (set x) few, rows_are s set xs few)

pub table_is : (number : ℕ → ℕ) (s : Shape) (set : ℕ → Set) (xs : List ℕ) → length s < 32768
    → subtable_of number set s xs ≡ table_bytes number (word_count s) (columns_of s) set xs
unfolding subtable_of slot_of value.slot_bytes value.table_bytes table_bytes
table_is number s set [] few = refl
table_is number s set (x ∷ xs) few =
    rw (
      length-map (columns_of s) number,
      length-map xs (λ y. row_of s (set y)),
      index-are number (columns_of s),
      rows_are s set (x ∷ xs) few,
    ) (regroup (bytes_of 2 (length (x ∷ xs))) (bytes_of 2 (word_count s)) (bytes_of 2 (length (columns_of s))) (index_bytes number (columns_of s) ++ rows_bytes (word_count s) (columns_of s) set (x ∷ xs)))
  where
    regroup : (a b c d : List ℕ) → a ++ (b ++ (c ++ d)) ≡ (a ++ (b ++ c)) ++ d
    regroup a b c d = simp append_assoc

pub sub-length : (number : ℕ → ℕ) (set : ℕ → Set) (s : Shape) (xs : List ℕ) → length s < 32768
    → length (subtable_of number set s xs) ≡ subtable_size (length (columns_of s)) (column_start (word_count s) (length (columns_of s))) (length xs)
unfolding subtable_size
sub-length number set s xs few =
    let cols = columns_of s in
    let word = word_count s in
    ap length (table_is number s set xs few) ∙ ⊎_elim
    (λ (e : length xs ≡ 0). rw (eq-eqb (length xs) 0 e, table_none number word cols set xs e))
    (λ d. rw (ne_eqb (length xs) 0 d) (table-length number word cols set xs d))
    (same_or_not (length xs) 0)

-- only the numbers of the shape's regions matter
pub sub_same : (f g : ℕ → ℕ) (set : ℕ → Set) (s : Shape) (xs : List ℕ) → ((r : ℕ) → r < length s → f r ≡ g r) → subtable_of f set s xs ≡ subtable_of g set s xs
unfolding subtable_of slot_of
sub_same f g set s [] h = refl
sub_same f g set s (x ∷ xs) h = rw (map_same f g (columns_of s) (all-imp (λ r i. h r i.0) (columns_of s) (columns-in s)))
