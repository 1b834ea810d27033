-- What is written reads back: each row and region of the store of final groups, by the value that it parses to. Assumes nothing.
use mathlib.Core.Path.{◌≡◌, sym, ap, ◌∙◌}
use mathlib.Core.Bool.{Bool, true}
use mathlib.Core.List.{List, [], ◌∷◌, map}
use mathlib.Core.Logic.{⊎_elim}
use mathlib.Core.Option.{none}
use Prim.Native.Nat.{ℕ, suc, ◌<◌}
use native.Mathlib.Omega.{arith}
use lib.IntN.{ℤ, pos, negsuc}
use lib.ListN.{length, get_or, length-map, get_or-eq_default}
use borrow.Author.Tests.{lt-leb, eqb-true}
use Rattle.laws.specs.Signed.{is_zero}
use Rattle.laws.proofs.Cases.{lt-or-ge, same_or_not}
use Rattle.laws.proofs.ListLaws.{get_or-map-in}
use Rattle.laws.proofs.EveryLaws.{all-imp, all-get_or}
use Rattle.shapes.specs.Shape.{Shape}
use Rattle.shapes.proofs.WidthLaws.{cost-none}
use Rattle.reader.specs.declared.column.Column.{Column}
use Rattle.reader.specs.declared.column.Column.TheVariants.{At, Missing}
use Rattle.reader.specs.Store.{Written, NoColumn, find, read_store, value_of}
use Rattle.stores.specs.Stores.{Parsed, read_row, read_table, read_parsed}
use Rattle.laws.proofs.RankLaws.{rank_less, rank_same}
use Rattle.stores.proofs.Kept.{find-map}
use Rattle.stores.proofs.Reading.{read-parsed}
use Rattle.rows.specs.Columns.{columns_of, word_count}
use Rattle.rows.specs.Row.{Set, value_in, row_of}
use Rattle.rows.proofs.ColumnsLaws.{columns-in, columns-ok, columns-has, columns-lack, find-is}
use Rattle.store.specs.Placing.{Final, all_runs, names, kept_of, new_index, slot_of, made_of, store_of}
use Rattle.readback.proofs.BackLaws.{row_back}
use Rattle.readback.proofs.MapBack.{empty}
use Rattle.readback.proofs.Parsing.{Sound, Fit, made-parsed}

pub zero-value : (z : ℤ) → is_zero z ≡ true → z ≡ pos 0
unfolding is_zero
zero-value (pos m) e = ap pos (eqb-true m 0 e)
zero-value (negsuc m) e = let z : ◌≡◌ {A = ℕ} 0 1 = cc in absurd (omega arith)

-- a row of a run that is not empty
slot-reads : (regions : ℕ) (number : ℕ → ℕ) (set : ℕ → Set) (s : Shape) (xs : List ℕ) (i q : ℕ) → i < length xs → q < regions
    → read_table regions (slot_of number set s xs) i q ≡ read_row (word_count s) (row_of s (set (get_or xs i 0))) (find q 0 (map number (columns_of s)))
unfolding read_table slot_of
slot-reads regions number set s [] i q h l = absurd (omega arith)
slot-reads regions number set s (x ∷ xs) i q h l =
    let row : ℕ → List ℕ = (λ y. row_of s (set y)) in
    rw (length-map xs row, lt-leb (suc (length xs)) i h, lt-leb regions q l, get_or-map-in row (x ∷ xs) i 0 [] h)

module _ (axes : ℕ) (coords : List (List ℕ)) (set : ℕ → Set) (gs : List Final) (fit : Fit axes coords set gs)
    (o : ℕ) (h : o < length (all_runs gs)) (i : ℕ) (row : i < length (get_or (all_runs gs) o empty).ids) where
  abbrev made : Parsed
  made = made_of axes coords set gs

  abbrev p : ℕ → Bool
  p r = names r gs

  abbrev run : Final
  run = get_or (all_runs gs) o empty

  abbrev cols : List ℕ
  cols = columns_of (get_or (all_runs gs) o empty).shape

  abbrev mine : Set
  mine = set (get_or (get_or (all_runs gs) o empty).ids i 0)

  pub run_sound : Sound coords set gs run
  run_sound = all-get_or (Sound coords set gs) (all_runs gs) o empty fit.sound h

  few : length run.shape < 32768
  few = omega (arith, run_sound.long, fit.regions-few)

  module _ (r : ℕ) (region : r < length coords) (kept : names r gs ≡ true) where
    row_reads : read_parsed made o i (new_index gs r) ≡ read_row (word_count run.shape) (row_of run.shape mine) (find (new_index gs r) 0 (map (new_index gs) cols))
    unfolding read_parsed made_of
    row_reads =
        rw (
          length-map (kept_of (length coords) gs) (λ q. get_or coords q []),
          get_or-map-in (λ (g : Final). slot_of (new_index gs) set g.shape g.ids) (all_runs gs) o empty none h,
        ) (slot-reads (new_index gs (length coords)) (new_index gs) set run.shape run.ids i (new_index gs r) row (rank_less p r (length coords) kept region))

    -- by new numbers a region has the column that it has by old ones
    reads : (c : Column) → find r 0 cols ≡ c → read_parsed made o i (new_index gs r) ≡ read_row (word_count run.shape) (row_of run.shape mine) c
    reads c e =
        row_reads
        ∙ ap (read_row (word_count run.shape) (row_of run.shape mine))
        (find-map (new_index gs) r 0 cols (all-imp (λ q l e. rank_same p q r (run_sound.named q l.1) kept e) cols (columns-in run.shape)) ∙ e)

    made_none : get_or run.shape r 0 ≡ 0 → read_parsed made o i (new_index gs r) ≡ NoColumn
    unfolding read_row
    made_none e = reads Missing (columns-lack run.shape r e)

    made-value : (get_or run.shape r 0 ≡ 0 → ⊥) → read_parsed made o i (new_index gs r) ≡ Written (value_in mine r)
    unfolding read_row
    made-value d =
        let inn : r < length run.shape = ⊎_elim (λ l. l) (λ l. absurd (d (get_or-eq_default run.shape 0 l))) (lt-or-ge r (length run.shape)) in
        let j = columns-has run.shape r inn (omega arith) (run_sound.widths.most r) (run_sound.widths.one_of r) in
        reads (At j.0) (find-is (length run.shape) cols r j.0 (columns-ok run.shape) j.1 j.2)
        ∙ ap Written (row_back run.shape mine j.0 few run_sound.widths (run_sound.covers i row) j.1)
        ∙ ap (λ (q : ℕ). Written (value_in mine q)) j.2

    pub made-back : value_of (read_parsed made o i (new_index gs r)) ≡ value_in mine r
    unfolding value_of
    made-back = ⊎_elim
        (λ (e : get_or run.shape r 0 ≡ 0). ap value_of (made_none e) ∙ sym (zero-value (value_in mine r) (cost-none (value_in mine r) (omega (arith, (run_sound.covers i row).holds r)))))
        (λ d. ap value_of (made-value d))
        (same_or_not (get_or run.shape r 0) 0)

    module _ (short : length (store_of axes coords set gs) < 4294967296) where
      by_value : read_store (store_of axes coords set gs) o i (new_index gs r) ≡ read_parsed made o i (new_index gs r)
      by_value = read-parsed (store_of axes coords set gs) made (made-parsed axes coords set gs fit short) o i (new_index gs r)

      -- no column where the run's shape has no width for the region
      pub store-none : get_or run.shape r 0 ≡ 0 → read_store (store_of axes coords set gs) o i (new_index gs r) ≡ NoColumn
      store-none e = by_value ∙ made_none e

      -- else the value that the row's set has for it, sign included
      pub store-value : (get_or run.shape r 0 ≡ 0 → ⊥) → read_store (store_of axes coords set gs) o i (new_index gs r) ≡ Written (value_in mine r)
      store-value d = by_value ∙ made-value d

      -- in sum: what is read is the value of the row's set, zero where it has none
      pub store-back : value_of (read_store (store_of axes coords set gs) o i (new_index gs r)) ≡ value_in mine r
      store-back = ap value_of by_value ∙ made-back
