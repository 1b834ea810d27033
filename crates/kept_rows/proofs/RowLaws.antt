-- One row of a store that is cut down: where it stands, its columns, and where a row of the new store was. Assumes nothing.
use mathlib.Core.Path.{◌≡◌, refl, sym, ap, ◌∙◌}
use mathlib.Core.Bool.{Bool, true, false}
use mathlib.Core.List.{[], map}
use mathlib.Core.Logic.{⊎_elim}
use mathlib.Core.Option.{Option, none, some}
use Prim.Native.Nat.{ℕ, ◌/◌, ◌%◌, ◌≤◌, ◌<◌}
use native.Mathlib.Omega.{arith}
use lib.Dec.{ltb}
use lib.ListN.{length, get_or, length-map, get_or-eq_default}
use borrow.Author.Tests.{lt-ltb, ltb-true}
use Rattle.laws.specs.Every.{All}
use Rattle.laws.specs.Bounded.{up_to}
use Rattle.laws.specs.Sorting.{keep}
use Rattle.laws.proofs.Cases.{lt-or-ge}
use Rattle.laws.proofs.ListLaws.{get_or-map-in}
use Rattle.laws.proofs.EveryLaws.{all-get_or}
use Rattle.laws.proofs.RankLaws.{rank_less, rank-onto, kept_at}
use Rattle.stores.specs.Stores.{Table, Parsed, SlotFits, Shaped}
use Rattle.stores.specs.Dropping.{rank, picked, cut, has_rows, cut_at, stays, left, named, renumber, dropped, new_place, row_count}
use Rattle.stores.specs.Coordinates.{is_row_there}
use Rattle.stores.proofs.Picking.{picked-long, picked-at}
use Rattle.stores.proofs.ByCoordinates.{picked-from}
use Rattle.stores.proofs.Again.{Columns, left-columns}
use Rattle.stores.proofs.Kept.{low, drop-coordinates}
use Rattle.stores.proofs.Words.{place-outer, place-inner}
use Rattle.kept_rows.specs.KeptRows.{SameColumns}

-- ---- a row that is there

pub record RowIn (p : Parsed) (o i : ℕ) : Type 0 where
  pub table : Table
  pub is : get_or p.tables o none ≡ some table
  pub below : i < length table.rows
  pub outer_below : o < length p.tables

pub row_in : (p : Parsed) (o i : ℕ) → is_row_there p o i ≡ true → RowIn p o i
unfolding is_row_there row_count
row_in p o i h = go (get_or p.tables o none) refl h
  where
    go : (slot : Option Table) → get_or p.tables o none ≡ slot → ltb i (row_count slot) ≡ true → RowIn p o i
    go none e k = absurd (omega (arith, ltb-true i 0 k))
    go (some t) e k = record {
      table = t;
      is = e;
      below = ltb-true i (length t.rows) k;
      outer_below = ⊎_elim (λ (l : o < length p.tables). l)
          (λ (l : length p.tables ≤ o).
          let d : none ≡ some t = sym (get_or-eq_default p.tables none {n = o} l) ∙ e in
          let z : ◌≡◌ {A = ℕ} 0 1 = cc in
          absurd (omega arith))
          (lt-or-ge o (length p.tables));
    }

-- ---- the row that it becomes

module _ (p : Parsed) (u : ℕ → ℕ → Bool) (sh : Shaped p) where
  abbrev number : ℕ → ℕ
  number = rank (named (left p u))

  left-long : length (left p u) ≡ rank (stays p u) (length p.tables)
  unfolding left
  left-long = length-map (keep (stays p u) (up_to (length p.tables))) (cut_at p u)

  -- subtable o, where it stays
  left_at : (o : ℕ) → o < length p.tables → stays p u o ≡ true → get_or (left p u) (rank (stays p u) o) none ≡ cut_at p u o
  unfolding left
  left_at o b k =
      get_or-map-in (cut_at p u) (keep (stays p u) (up_to (length p.tables))) (rank (stays p u) o) 0 none (rank_less (stays p u) o (length p.tables) k b)
      ∙ ap (cut_at p u) (kept_at (stays p u) (length p.tables) o b k)

  table_at : (o : ℕ) → o < length p.tables → stays p u o ≡ true → get_or (dropped p u).tables (rank (stays p u) o) none ≡ renumber number (cut_at p u o)
  unfolding dropped
  table_at o b k =
      get_or-map-in (renumber number) (left p u) (rank (stays p u) o) none none (rw left-long (rank_less (stays p u) o (length p.tables) k b))
      ∙ ap (renumber number) (left_at o b k)

  cut-some : (o : ℕ) (t : Table) → get_or p.tables o none ≡ some t → cut_at p u o ≡ some (record { word = t.word; columns = t.columns; rows = picked (u o) [] t.rows })
  unfolding cut
  cut-some o t e = rw e

  abbrev new_table : ℕ → Table → Table
  new_table o t = record { word = t.word; columns = map number t.columns; rows = picked (u o) [] t.rows }

  new-at : (o : ℕ) (t : Table) → o < length p.tables → stays p u o ≡ true → get_or p.tables o none ≡ some t
      → get_or (dropped p u).tables (rank (stays p u) o) none ≡ some (new_table o t)
  unfolding renumber
  new-at o t b k e = table_at o b k ∙ ap (renumber number) (cut-some o t e)

  module _ (w : ℕ) (x : RowIn p (w / 65536) (w % 65536)) (y : u (w / 65536) (w % 65536) ≡ true) where
    abbrev o : ℕ
    o = w / 65536

    abbrev i : ℕ
    i = w % 65536

    abbrev t : Table
    t = x.table

    inner-in : rank (u o) i < length (picked (u o) [] t.rows)
    inner-in = rw (picked-long (u o) [] t.rows) (rank_less (u o) i (length t.rows) y x.below)

    stay : stays p u o ≡ true
    unfolding has_rows
    stay = rw (cut-some o t x.is) (lt-ltb 0 (length (picked (u o) [] t.rows)) (omega (arith, inner-in)))

    columns-in : All (λ c. (c < length p.regions) × (named (left p u) c ≡ true)) t.columns
    columns-in =
        rw (left_at o x.outer_below stay, cut-some o t x.is) at
        (all-get_or (Columns (λ c. (c < length p.regions) × (named (left p u) c ≡ true))) (left p u) (rank (stays p u) o) none (left-columns p u (low p u sh))
        (rw left-long (rank_less (stays p u) o (length p.tables) stay x.outer_below)))

    pub same-columns : SameColumns p (dropped p u) w (new_place p u w)
    same-columns = record {
      old = t;
      new = new_table o t;
      old-is = x.is;
      new_is = rw (place-outer p u w) (new-at o t x.outer_below stay x.is);
      old-there = x.below;
      new-there = rw (place-inner p u w) inner-in;
      word_same = refl;
      columns-same = length-map t.columns number;
      region-same = λ j l.
          let c = all-get_or (λ c. (c < length p.regions) × (named (left p u) c ≡ true)) t.columns j 0 columns-in l in
          ap (λ (r : ℕ). get_or (dropped p u).regions r []) (get_or-map-in number t.columns j 0 0 l)
          ∙ drop-coordinates p u sh o i t x.is x.below y (get_or t.columns j 0) c.0 c.1;
      row_same = rw (place-inner p u w) (picked-at (u o) [] t.rows i x.below y);
    }

  -- ---- a row of the new store was one that is used

  pub record WasRow (o' i' : ℕ) : Type 0 where
    pub outer : ℕ
    pub inner : ℕ
    pub was-used : u outer inner ≡ true
    pub inner-low : inner < 65536
    pub outer-is : rank (stays p u) outer ≡ o'
    pub inner-is : rank (u outer) inner ≡ i'

  tables-long : length (dropped p u).tables ≡ rank (stays p u) (length p.tables)
  unfolding dropped
  tables-long = length-map (left p u) (renumber number) ∙ left-long

  pub was-row : (o' i' : ℕ) → is_row_there (dropped p u) o' i' ≡ true → WasRow o' i'
  was-row o' i' h =
      let x = row_in (dropped p u) o' i' h in
      let a = rank-onto (stays p u) (length p.tables) o' (rw tables-long at x.outer_below) in
      go x a.0 a.1 a.2 a.3 (get_or p.tables a.0 none) refl
    where
      go : RowIn (dropped p u) o' i' → (o : ℕ) → o < length p.tables → stays p u o ≡ true → rank (stays p u) o ≡ o' → (slot : Option Table) → get_or p.tables o none ≡ slot
          → WasRow o' i'
      go x o b k e none f = absurd (no_rows k)
        where
          no_rows : has_rows (cut_at p u o) ≡ true → ⊥
          no_rows g = unfold has_rows cut in (let z : false ≡ true = rw f at g in let y : ◌≡◌ {A = ℕ} 0 1 = cc in omega arith)
      go x o b k e (some t) f =
          let g : get_or (dropped p u).tables o' none ≡ some (new_table o t) = rw (← e) (new-at o t b k f) in
          let l : some x.table ≡ some (new_table o t) = sym x.is ∙ g in
          let m : x.table ≡ new_table o t = cc in
          let n : i' < length (picked (u o) [] t.rows) = rw m at x.below in
          let q = picked-from (u o) t.rows i' n in
          let few = (rw f at (all-get_or (SlotFits (length p.regions)) p.tables o none sh.tables-fit b)).rows_few in
          record {
            outer = o;
            inner = q.0;
            was-used = q.2;
            inner-low = omega (arith, q.1, few);
            outer-is = e;
            inner-is = q.4;
          }
