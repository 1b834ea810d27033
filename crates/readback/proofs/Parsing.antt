-- The store of final groups is well formed, so its bytes parse to the value that it was made as. Assumes nothing.
use mathlib.Core.Path.{◌≡◌, refl, sym, subst}
use mathlib.Core.Bool.{Bool, true}
use mathlib.Core.List.{List, [], ◌∷◌, map}
use mathlib.Core.Option.{Option, some}
use Prim.Native.Nat.{ℕ, ◌*◌, ◌≤◌, ◌<◌}
use native.Mathlib.Omega.{arith}
use lib.ListN.{length, get_or, length-map}
use Rattle.laws.specs.Every.{All}
use Rattle.laws.specs.Signed.{twos}
use Rattle.laws.specs.Bytes.{bytes_of}
use Rattle.laws.proofs.BytesLaws.{bytes_low}
use Rattle.laws.proofs.EveryLaws.{all, all-imp, all_map, all_append}
use Rattle.shapes.specs.Shape.{Shape}
use Rattle.reader.specs.Store.{column_start, are_columns_ok}
use Rattle.stores.specs.Stores.{Table, Bytes, SlotFits, Shaped, parse}
use Rattle.stores.specs.Dropping.{picked}
use Rattle.laws.proofs.RankLaws.{rank_most}
use Rattle.stores.proofs.Picking.{picked-long, picked_all}
use Rattle.stores.proofs.Kept.{renumber-ok}
use Rattle.stores.proofs.Back.{parse-place}
use Rattle.rows.specs.Columns.{columns_of, word_count, bytes_for_width}
use Rattle.rows.specs.Row.{Set, value_in, cells_of, row_of, Widths, Covers}
use Rattle.rows.proofs.ColumnsLaws.{columns-in, columns-ok, word_below, word-full}
use Rattle.rows.proofs.CollectLaws.{columns-count, columns-most}
use Rattle.rows.proofs.CellLaws.{row-long}
use Rattle.store.specs.Placing.{Final, all_runs, names, new_index, slot_of, made_of, store_of}
use Rattle.store.proofs.GroupLaws.{ok-more}

-- what a run must be: its widths are widths, its regions are among the list's, and its shape covers its sets
pub record Sound (coords : List (List ℕ)) (set : ℕ → Set) (gs : List Final) (run : Final) : Type 0 where
  pub long : length run.shape ≤ length coords
  pub widths : Widths run.shape
  pub named : (r : ℕ) → 0 < get_or run.shape r 0 → names r gs ≡ true
  pub items : length run.ids < 65536
  pub covers : (i : ℕ) → i < length run.ids → Covers run.shape (set (get_or run.ids i 0))

-- and what coordinates and groups must be
pub record Fit (axes : ℕ) (coords : List (List ℕ)) (set : ℕ → Set) (gs : List Final) : Type 0 where
  pub axes-few : axes < 65536
  pub regions-few : length coords < 32768
  pub coords-long : All (λ c. length c ≡ 6 * axes) coords
  pub coords-bytes : All Bytes coords
  pub runs-few : length (all_runs gs) < 65536
  pub sound : All (Sound coords set gs) (all_runs gs)

-- ---- rows are bytes

cells-bytes : (s : Shape) (set : Set) (cols : List ℕ) → Bytes (cells_of s set cols)
unfolding cells_of
cells-bytes s set [] = tt
cells-bytes s set (r ∷ rs) =
    all_append (λ b. b < 256) (bytes_of (bytes_for_width s (get_or s r 0)) (twos 4 (value_in set r))) (cells_of s set rs) (bytes_low (bytes_for_width s (get_or s r 0)) (twos 4 (value_in set r))) (cells-bytes s set rs)

row-bytes : (s : Shape) (set : Set) → Bytes (row_of s set)
unfolding row_of
row-bytes s set = cells-bytes s set (columns_of s)

-- ---- well formed

module _ (regions : ℕ) (gs : List Final) (set : ℕ → Set) (few : regions < 32768) where
  abbrev number : ℕ → ℕ
  number = new_index gs

  slot-fits : (s : Shape) (xs : List ℕ) → length s ≤ regions → ((r : ℕ) → 0 < get_or s r 0 → names r gs ≡ true) → length xs < 65536
      → SlotFits (number regions) (slot_of number set s xs)
  unfolding slot_of
  slot-fits s [] long kept items = tt
  slot-fits s (x ∷ xs) long kept items =
      let cols = columns_of s in
      let short : length s < 32768 = omega arith in
      let l = length-map cols number in
      let low : All (λ c. (c < regions) × (names c gs ≡ true)) cols = all-imp (λ c h. (omega (arith, h.0), kept c h.1)) cols (columns-in s) in
      let ok : are_columns_ok regions cols ≡ true = ok-more (length s) regions cols (columns-ok s) long in
      record {
        word_fits = word_below s short;
        columns-few = rw l (omega (arith, columns-count s, columns-most s));
        rows_few = rw (length-map xs (λ y. row_of s (set y))) items;
        wide = rw l (word-full s short);
        named = renumber-ok (λ r. names r gs) regions cols ok low;
        rows_long = subst (λ n. All (λ r. length r ≡ column_start (word_count s) n) (map (λ y. row_of s (set y)) (x ∷ xs))) (sym l)
            (all_map (λ r. length r ≡ column_start (word_count s) (length cols)) (λ y. row_of s (set y)) (x ∷ xs) (all (λ y. row-long s (set y) short) (x ∷ xs)));
        rows-bytes = all_map Bytes (λ y. row_of s (set y)) (x ∷ xs) (all (λ y. row-bytes s (set y)) (x ∷ xs));
      }

module _ (axes : ℕ) (coords : List (List ℕ)) (set : ℕ → Set) (gs : List Final) where
  -- the list has the regions that are named, in their order
  pub regions-are : (made_of axes coords set gs).regions ≡ picked (λ r. names r gs) [] coords
  unfolding made_of picked
  regions-are = refl

  module _ (fit : Fit axes coords set gs) where
    abbrev p : ℕ → Bool
    p r = names r gs

    pub made_shaped : Shaped (made_of axes coords set gs)
    unfolding made_of picked
    made_shaped =
        let long = picked-long p [] coords in
        let slot : Final → Option Table = (λ (r : Final). slot_of (new_index gs) set r.shape r.ids) in
        record {
          axes-fit = fit.axes-few;
          regions-few = rw long (omega (arith, rank_most p (length coords), fit.regions-few));
          regions-long = picked_all p [] coords (λ c. length c ≡ 6 * axes) fit.coords-long;
          regions-bytes = picked_all p [] coords Bytes fit.coords-bytes;
          tables-few = rw (length-map (all_runs gs) slot) fit.runs-few;
          tables-fit = rw long (all_map (SlotFits (new_index gs (length coords))) slot (all_runs gs)
              (all-imp (λ r a. slot-fits (length coords) gs set fit.regions-few r.shape r.ids a.long a.named a.items) (all_runs gs) fit.sound));
        }

    -- the store that is built parses to what it was made as
    pub made-parsed : length (store_of axes coords set gs) < 4294967296 → parse (store_of axes coords set gs) ≡ some (made_of axes coords set gs)
    unfolding store_of
    made-parsed short = parse-place (made_of axes coords set gs) (record { shaped = made_shaped; short = short })
