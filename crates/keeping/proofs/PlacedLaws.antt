-- The store that is left, placed, is what is written. Assumes nothing.
use mathlib.Core.Path.{◌≡◌, refl, sym, ap, ap₂, subst, ◌∙◌}
use mathlib.Core.Bool.{Bool, true}
use mathlib.Core.List.{List, [], ◌++◌, map, append_assoc}
use mathlib.Core.Option.{Option, none, some}
use Prim.Native.Nat.{ℕ, zero, suc, ◌+◌, ◌-◌, ◌*◌, ◌%◌, ◌≤◌, ◌<◌}
use native.Mathlib.Nat.{zero-add}
use native.Mathlib.Omega.{arith}
use lib.ListN.{length, get_or, length-map}
use lib.Seq.{ext_get_or}
use borrow.Author.Tests.{eq-eqb, ne_eqb}
use Rattle.laws.specs.Every.{All}
use Rattle.laws.specs.Pick.{pick}
use Rattle.laws.specs.Bag.{sum, weigh}
use Rattle.laws.specs.Bounded.{tabulate, up_to}
use Rattle.laws.specs.Bytes.{be, bytes_of}
use Rattle.laws.specs.Joining.{join_all}
use Rattle.laws.specs.LentRange.{seg}
use Rattle.laws.specs.Sorting.{keep}
use Rattle.laws.proofs.Cases.{Which, which}
use Rattle.laws.proofs.Cases.Which.{holds, fails}
use Rattle.laws.proofs.BoundedLaws.{length-tabulate, get_or-tabulate, tabulate-same, map-tabulate}
use Rattle.laws.proofs.EveryLaws.{all, all-imp, all-get_or}
use Rattle.laws.proofs.BagLaws.{weigh-map, weigh-same}
use Rattle.laws.proofs.ListLaws.{map_same}
use Rattle.laws.proofs.SortLaws.{keep_same}
use Rattle.laws.proofs.SortMap.{keep_all}
use Rattle.laws.proofs.UpLaws.{up-all}
use Rattle.reader.specs.Store.{words, list_at, axis_count, region_count, word_at, column_count, regions_at}
use Rattle.reader.proofs.StoreLaws.{words-length, words-at}
use Rattle.stores.specs.Stores.{Table, Parsed, parts, rows_at, row_long, store_at, table_bytes, slot_bytes, offsets, list_bytes, place, Shaped}
use Rattle.stores.specs.Dropping.{rank, used, picked, left, named, renumber, dropped, row_count}
use Rattle.stores.proofs.Again.{Columns, left-columns}
use Rattle.stores.proofs.Kept.{low}
use Rattle.stores.proofs.Picking.{picked-long}
use Rattle.stores.proofs.PartLaws.{parts-long, parts_at}
use Rattle.stores.proofs.WholeLaws.{Whole, parse-done, parse-shaped}
use Rattle.cutting.specs.LentCut.{start_of, rows_of, table_of, StoreFit, StoreNamed, marked, columns_put, rows_put, cut_bytes, cut_size, spots_put, regions_put, list_put, tables_put, store_put}
use Rattle.cutting.proofs.TableLaws.{cut-long}
use Rattle.keeping.specs.Keeping.{all_there}
use Rattle.keeping.specs.LentKeep.{Words}
use Rattle.keeping.proofs.WordLaws.{store-fit}
use Rattle.keeping.proofs.LeftLaws.{cut_table, left_is, rows-total}

-- ---- lists of subtables

offsets-tab : (T : ℕ → Table) (a : ℕ → ℕ) (first k n : ℕ) → ((g : ℕ) → k ≤ g → g < k + n → length (table_bytes (T g)) ≡ a g)
    → offsets (first + sum a k) (tabulate k n (λ g. some (T g))) ≡ join_all (tabulate k n (λ g. bytes_of 4 (first + sum a g)))
unfolding offsets tabulate join_all sum
offsets-tab T a first k zero h = refl
offsets-tab T a first k (suc n) h =
    let e : first + sum a k + length (table_bytes (T k)) ≡ first + (sum a k + a k) = omega (arith, h k (omega arith) (omega arith)) in
    ap (λ (l : List ℕ). bytes_of 4 (first + sum a k) ++ l)
    (ap (λ (x : ℕ). offsets x (tabulate (suc k) n (λ g. some (T g)))) e ∙ offsets-tab T a first (suc k) n (λ g p q. h g (omega arith) (omega arith)))

words-tab : (s : List ℕ) (at n : ℕ) → words s at n ≡ tabulate 0 n (λ j. be 2 s (at + 2 * j))
words-tab s at n = ext_get_or 0 (words s at n) (tabulate 0 n (λ j. be 2 s (at + 2 * j))) (words-length s at n ∙ sym (length-tabulate 0 n (λ j. be 2 s (at + 2 * j))))
    (λ j h.
    let b : j < n = omega (arith, words-length s at n) in
    words-at s at n j b ∙ sym (get_or-tabulate 0 n (λ j. be 2 s (at + 2 * j)) 0 j b ∙ rw (zero-add j)))

module _ {rows w : List ℕ} {k t : ℕ} (c : Words rows w k t) {s : List ℕ} (bytes : (i : ℕ) → get_or s i 0 < 256) (whole : Whole s) (there : all_there (store_at s) rows ≡ true)
    (room : 3 * length rows + 1 + region_count s ≤ length w)
    (num : (r : ℕ) → r < region_count s → get_or w (3 * length rows + 1 + r) 0 ≡ pick (named (left (store_at s) (used rows)) r) (rank (named (left (store_at s) (used rows))) r + 1) 0) where
  abbrev n : ℕ
  n = length rows

  abbrev m : ℕ
  m = 3 * length rows + 1

  abbrev p : Parsed
  p = store_at s

  abbrev u : ℕ → ℕ → Bool
  u = used rows

  abbrev nm : ℕ → Bool
  nm = named (left (store_at s) (used rows))

  abbrev d : Parsed
  d = dropped (store_at s) (used rows)

  fit : StoreFit s n w t
  fit = store-fit c bytes whole there room

  shaped : Shaped (store_at s)
  shaped = parse-shaped s bytes (store_at s) (parse-done s whole)

  table : ℕ → Table
  table = cut_table c bytes whole there room

  left-tab : left p u ≡ tabulate 0 t (λ g. some (table g))
  unfolding table
  left-tab = left_is c bytes whole there room

  -- ---- marks and numbers

  marked-is : (r : ℕ) → r < region_count s → marked m w r ≡ nm r
  marked-is r h = go (which (nm r))
    where
      go : Which (nm r) → marked m w r ≡ nm r
      go (holds e) =
          let x : get_or w (m + r) 0 ≡ rank nm r + 1 = rw e at (num r h) in
          rw (e, ne_eqb (get_or w (m + r) 0) 0 (λ z. omega arith))
      go (fails e) =
          let x : get_or w (m + r) 0 ≡ 0 = rw e at (num r h) in
          rw (e, eq-eqb (get_or w (m + r) 0) 0 x)

  number_is : (r : ℕ) → r < region_count s → nm r ≡ true → get_or w (m + r) 0 - 1 ≡ rank nm r
  number_is r h e = let x : get_or w (m + r) 0 ≡ rank nm r + 1 = rw e at (num r h) in omega arith

  regions-count : length (store_at s).regions ≡ region_count s
  unfolding store_at
  regions-count = parts-long s (list_at s + 4) (6 * axis_count s) (region_count s)

  -- the columns of a subtable that is left name regions that have numbers
  columns-named : (g j : ℕ) → g < t → j < column_count s (table_of s n w g)
      → (be 2 s (table_of s n w g + 6 + 2 * j) < region_count s) × (nm (be 2 s (table_of s n w g + 6 + 2 * j)) ≡ true)
  unfolding table cut_table
  columns-named g j l h =
      let Q : ℕ → Type 0 = (λ x. (x < length (store_at s).regions) × (nm x ≡ true)) in
      let a : All (Columns Q) (tabulate 0 t (λ g. some (table g))) = subst (λ (ts : List (Option Table)). All (Columns Q) ts) left-tab (left-columns p u (low p u shaped)) in
      let b = rw (get_or-tabulate 0 t (λ g. some (table g)) none g l, zero-add g) at (all-get_or (Columns Q) (tabulate 0 t (λ g. some (table g))) g none a (omega (arith, length-tabulate 0 t (λ g. some (table g))))) in
      let e : get_or (regions_at s (table_of s n w g)) j 0 ≡ be 2 s (table_of s n w g + 6 + 2 * j) = words-at s (table_of s n w g + 6) (column_count s (table_of s n w g)) j h in
      let f = all-get_or Q (regions_at s (table_of s n w g)) j 0 b (omega (arith, words-length s (table_of s n w g + 6) (column_count s (table_of s n w g)))) in
      let x = rw e at f in
      (omega (arith, x.0, regions-count), x.1)

  pub store-named : StoreNamed s n w t
  store-named = λ g l. record {
    in-work = λ j h. omega (arith, (columns-named g j l h).0, room);
    numbered = λ j h.
        let q = columns-named g j l h in
        let x : get_or w (m + be 2 s (table_of s n w g + 6 + 2 * j)) 0 ≡ rank nm (be 2 s (table_of s n w g + 6 + 2 * j)) + 1 = rw q.1 at (num (be 2 s (table_of s n w g + 6 + 2 * j)) q.0) in
        omega arith;
  }

  -- ---- subtables

  new_table : ℕ → Table
  new_table g = record {
    word = word_at s (table_of s n w g);
    columns = map (rank nm) (regions_at s (table_of s n w g));
    rows = tabulate 0 (rows_of n w g) (λ i. seg (rows_at s (table_of s n w g) + get_or w (start_of n w g + i) 0 % 65536 * row_long s (table_of s n w g)) (row_long s (table_of s n w g)) s);
  }

  tables-are : d.tables ≡ tabulate 0 t (λ g. some (new_table g))
  unfolding dropped renumber new_table table cut_table
  tables-are = ap (map (renumber (rank nm))) left-tab ∙ map-tabulate (renumber (rank nm)) 0 t (λ g. some (table g))

  columns-are : (g : ℕ) → g < t → join_all (map (bytes_of 2) (map (rank nm) (regions_at s (table_of s n w g)))) ≡ columns_put s (table_of s n w g + 6) (column_count s (table_of s n w g)) w m
  unfolding columns_put
  columns-are g l =
      let at = table_of s n w g in
      let q = column_count s at in
      let f : ℕ → ℕ = (λ j. be 2 s (at + 6 + 2 * j)) in
      ap join_all (ap (λ (x : List ℕ). map (bytes_of 2) (map (rank nm) x)) (words-tab s (at + 6) q)
      ∙ ap (map (bytes_of 2)) (map-tabulate (rank nm) 0 q f)
      ∙ map-tabulate (bytes_of 2) 0 q (λ j. rank nm (f j))
      ∙ tabulate-same 0 q (λ j. bytes_of 2 (rank nm (f j))) (λ j. bytes_of 2 (get_or w (m + f j) 0 - 1))
      (λ j x y. let a = columns-named g j l (omega arith) in ap (bytes_of 2) (sym (number_is (f j) a.0 a.1))))

  table-bytes : (g : ℕ) → g < t → table_bytes (new_table g) ≡ cut_bytes s n w g
  unfolding table_bytes cut_bytes new_table rows_put
  table-bytes g l =
      let at = table_of s n w g in
      let f : ℕ → List ℕ = (λ i. seg (rows_at s at + get_or w (start_of n w g + i) 0 % 65536 * row_long s at) (row_long s at) s) in
      rw (
        length-tabulate 0 (rows_of n w g) f,
        length-map (regions_at s at) (rank nm),
        words-length s (at + 6) (column_count s at),
        columns-are g l,
        append_assoc,
        append_assoc,
      )

  table-long : (g : ℕ) → 0 ≤ g → g < 0 + t → length (table_bytes (new_table g)) ≡ cut_size s n w g
  table-long g x y = let l : g < t = omega arith in ap length (table-bytes g l) ∙ cut-long (fit.table g l)

  spots-are : (first : ℕ) → offsets first d.tables ≡ spots_put s n w first t
  unfolding spots_put
  spots-are first =
      let z : first + sum (cut_size s n w) 0 ≡ first = (unfold sum in omega arith) in
      ap (offsets first) tables-are
      ∙ (rw z at (offsets-tab new_table (cut_size s n w) first 0 t table-long))

  bodies-are : join_all (map slot_bytes d.tables) ≡ tables_put s n w t
  unfolding tables_put slot_bytes
  bodies-are = ap join_all (ap (map slot_bytes) tables-are
      ∙ map-tabulate slot_bytes 0 t (λ g. some (new_table g))
      ∙ tabulate-same 0 t (λ g. table_bytes (new_table g)) (cut_bytes s n w) (λ g x y. table-bytes g (omega arith)))

  pub tables-count : length d.tables ≡ t
  tables-count = ap length tables-are ∙ length-tabulate 0 t (λ g. some (new_table g))

  pub rows-count : weigh row_count d.tables ≡ k
  unfolding dropped
  rows-count =
      weigh-map row_count (renumber (rank nm)) (left p u)
      ∙ weigh-same (λ x. row_count (renumber (rank nm) x)) row_count (left p u) (all same_rows (left p u))
      ∙ ap (weigh row_count) (left_is c bytes whole there room)
      ∙ rows-total c bytes whole there room
    where
      same_rows : (x : Option Table) → row_count (renumber (rank nm) x) ≡ row_count x
      same_rows none = unfold renumber in refl
      same_rows (some x) = unfold renumber row_count in refl

  -- ---- regions

  pub regions-kept : length d.regions ≡ rank nm (region_count s)
  unfolding dropped
  regions-kept = picked-long nm [] (store_at s).regions ∙ ap (rank nm) regions-count

  kept_same : keep nm (up_to (region_count s)) ≡ keep (marked m w) (up_to (region_count s))
  kept_same = keep_same nm (marked m w) (up_to (region_count s)) (all-imp (λ r h. sym (marked-is r h)) (up_to (region_count s)) (up-all (region_count s)))

  pub marks-count : rank (marked m w) (region_count s) ≡ rank nm (region_count s)
  marks-count = ap length (sym kept_same)

  regions-are : d.regions ≡ map (λ r. seg (list_at s + 4 + r * (6 * axis_count s)) (6 * axis_count s) s) (keep (marked m w) (up_to (region_count s)))
  unfolding dropped picked store_at
  regions-are =
      let ps = parts s (list_at s + 4) (6 * axis_count s) (region_count s) in
      let f : ℕ → List ℕ = (λ r. get_or ps r []) in
      let g : ℕ → List ℕ = (λ r. seg (list_at s + 4 + r * (6 * axis_count s)) (6 * axis_count s) s) in
      rw (parts-long s (list_at s + 4) (6 * axis_count s) (region_count s))
      (ap (map f) kept_same
      ∙ map_same f g (keep (marked m w) (up_to (region_count s)))
      (keep_all (marked m w) (λ r. f r ≡ g r) (up_to (region_count s))
      (all-imp (λ r h. parts_at s (list_at s + 4) (6 * axis_count s) (region_count s) r h) (up_to (region_count s)) (up-all (region_count s)))))

  list-is : (kept : ℕ) → kept ≡ rank nm (region_count s) → list_bytes d ≡ list_put s w m kept
  unfolding list_bytes list_put regions_put
  list-is kept e =
      ap₂ (λ (x : ℕ) (y : List (List ℕ)). bytes_of 2 d.axes ++ (bytes_of 2 x ++ join_all y)) (regions-kept ∙ sym e) regions-are ∙ axes-are
    where
      axes-are : bytes_of 2 d.axes ++ (bytes_of 2 kept ++ join_all (map (λ r. seg (list_at s + 4 + r * (6 * axis_count s)) (6 * axis_count s) s) (keep (marked m w) (up_to (region_count s)))))
          ≡ bytes_of 2 (axis_count s) ++ (bytes_of 2 kept ++ join_all (map (λ r. seg (list_at s + 4 + r * (6 * axis_count s)) (6 * axis_count s) s) (keep (marked m w) (up_to (region_count s)))))
      axes-are = unfold dropped store_at in refl

  -- ---- the store

  pub place_is : (kept : ℕ) → kept ≡ rank nm (region_count s) → place d ≡ store_put s n w t kept
  unfolding place store_put
  place_is kept e =
      rw (tables-count, spots-are (8 + 4 * t + length (list_bytes d)), bodies-are, list-is kept e, append_assoc, append_assoc)
