-- What is left of a store, by the chosen words: its subtables, their rows, and the new places. Assumes nothing.
use mathlib.Core.Path.{◌≡◌, refl, sym, ap, ap₂, ◌∙◌}
use mathlib.Core.Bool.{Bool, true, ◌||◌}
use mathlib.Core.List.{List, [], ◌∷◌, map}
use mathlib.Core.Option.{Option, none, some}
use Prim.Native.Nat.{ℕ, zero, suc, ◌+◌, ◌-◌, ◌*◌, ◌/◌, ◌%◌, ◌≤◌, ◌<◌}
use native.Mathlib.Nat.{zero-add}
use native.Mathlib.Omega.{arith}
use lib.ListN.{length, get_or}
use borrow.Author.Tests.{lt-ltb, ltb-true}
use Rattle.laws.specs.Every.{All, EachTwo}
use Rattle.laws.specs.Bag.{weigh, sum}
use Rattle.laws.specs.Bounded.{tabulate, up_to}
use Rattle.laws.specs.LentRange.{seg}
use Rattle.laws.specs.Sorting.{keep}
use Rattle.laws.proofs.BagLaws.{weigh-append, sum-next, sum_same}
use Rattle.laws.proofs.Cases.{true-false, Which, which}
use Rattle.laws.proofs.Cases.Which.{holds, fails}
use Rattle.laws.proofs.BoundedLaws.{length-tabulate, get_or-tabulate, tabulate-same, tabulate-snoc, map-tabulate}
use Rattle.laws.proofs.EveryLaws.{all-get_or, all-intro}
use Rattle.laws.proofs.Pigeon.{two-intro}
use Rattle.laws.proofs.RankLaws.{rank_less, rank-onto}
use Rattle.reader.specs.Store.{item_count, word_at, regions_at, region_count}
use Rattle.stores.specs.Stores.{Table, Parsed, parts, table_count, offset_at, rows_at, row_long, table_at, slot_at, store_at, SlotFits, Shaped}
use Rattle.stores.specs.Dropping.{rank, has, used, picked, cut, has_rows, cut_at, stays, left, named, new_place, row_count}
use Rattle.stores.proofs.Picking.{picked-long}
use Rattle.stores.proofs.PartLaws.{parts-long, parts_at, be-two}
use Rattle.stores.proofs.Rising.{rising-keep, rising-rank}
use Rattle.stores.proofs.WholeLaws.{Whole, parse-done, parse-shaped}
use Rattle.cutting.specs.LentCut.{start_of, rows_of, table_of, TableFit, tables_of}
use Rattle.cutting.proofs.NameLaws.{has-place, has-at}
use Rattle.keeping.specs.Keeping.{all_there}
use Rattle.keeping.specs.LentKeep.{Words}
use Rattle.keeping.proofs.WordLaws.{start-in, outers-less, outers-same, word-used, used-word, group-row, store-fit}

-- ---- a subtable stays where one of its rows is used

module _ (p : Parsed) (u : ℕ → ℕ → Bool) (o : ℕ) where
  stays-yes : (i : ℕ) (t : Table) → get_or p.tables o none ≡ some t → i < length t.rows → u o i ≡ true → stays p u o ≡ true
  unfolding has_rows cut
  stays-yes i t e h y =
      rw e (lt-ltb 0 (length (picked (u o) [] t.rows)) (omega (arith, picked-long (u o) [] t.rows, rank_less (u o) i (length t.rows) y h)))

  -- and only there
  stays-row : stays p u o ≡ true → (t : Table) × (i : ℕ) × (get_or p.tables o none ≡ some t) × (i < length t.rows) × (u o i ≡ true)
  unfolding has_rows cut
  stays-row h = go (get_or p.tables o none) refl
    where
      go : (slot : Option Table) → get_or p.tables o none ≡ slot → (t : Table) × (i : ℕ) × (get_or p.tables o none ≡ some t) × (i < length t.rows) × (u o i ≡ true)
      go none e = let a = rw e at h in let z : ◌≡◌ {A = ℕ} 0 1 = cc in absurd (omega arith)
      go (some t) e =
          let a = ltb-true 0 (length (picked (u o) [] t.rows)) (rw e at h) in
          let q = rank-onto (u o) (length t.rows) 0 (omega (arith, picked-long (u o) [] t.rows)) in
          (t, q.0, e, q.1, q.2)

-- lists of subtables with the same columns name the same regions
named-same : (a n r : ℕ) (A B : ℕ → Table) → ((g : ℕ) → (A g).columns ≡ (B g).columns) → named (tabulate a n (λ g. some (A g))) r ≡ named (tabulate a n (λ g. some (B g))) r
unfolding named tabulate
named-same a zero r A B h = refl
named-same a (suc n) r A B h = ap₂ (λ (x y : Bool). x || y) (ap (λ (l : List ℕ). has l r) (h a)) (named-same (suc a) n r A B h)

weigh-next : {A : Type 0} (φ : A → ℕ) (f : ℕ → A) (n : ℕ) → weigh φ (tabulate 0 (n + 1) f) ≡ weigh φ (tabulate 0 n f) + φ (f n)
unfolding weigh
weigh-next φ f n =
    ap (weigh φ) (tabulate-snoc 0 n f) ∙ weigh-append φ (tabulate 0 n f) (f (0 + n) ∷ [])
    ∙ rw (zero-add n) (omega arith)

pub weigh-tabulate : {A : Type 0} (φ : A → ℕ) (f : ℕ → A) (n : ℕ) → weigh φ (tabulate 0 n f) ≡ sum (λ g. φ (f g)) n
unfolding sum weigh tabulate
weigh-tabulate φ f zero = refl
weigh-tabulate φ f (suc n) =
    let z : n + 1 ≡ suc n = omega arith in
    (rw z at (weigh-next φ f n)) ∙ ap (λ (x : ℕ). x + φ (f n)) (weigh-tabulate φ f n)

module _ {rows w : List ℕ} {k t : ℕ} (c : Words rows w k t) {s : List ℕ} (bytes : (i : ℕ) → get_or s i 0 < 256) (whole : Whole s) (there : all_there (store_at s) rows ≡ true)
    (room : 3 * length rows + 1 + region_count s ≤ length w) where
  abbrev n : ℕ
  n = length rows

  abbrev p : Parsed
  p = store_at s

  abbrev u : ℕ → ℕ → Bool
  u = used rows

  abbrev N : ℕ
  N = length (store_at s).tables

  abbrev O : ℕ → ℕ
  O g = get_or w (start_of (length rows) w g) 0 / 65536

  count-is : length (store_at s).tables ≡ table_count s
  unfolding store_at
  count-is = length-tabulate 0 (table_count s) (λ o. slot_at s (offset_at s o))

  shaped : Shaped (store_at s)
  shaped = parse-shaped s bytes (store_at s) (parse-done s whole)

  fit : (g : ℕ) → g < t → TableFit s n w g
  fit g l = (store-fit c bytes whole there room).table g l

  row-long : (at : ℕ) → length (table_at s at).rows ≡ item_count s at
  unfolding table_at
  row-long at = parts-long s (rows_at s at) (row_long s at) (item_count s at)

  -- ---- the subtables that stay

  pub outers : List ℕ
  outers = tabulate 0 t (λ g. get_or w (start_of (length rows) w g) 0 / 65536)

  outers-at : (g : ℕ) → g < t → get_or outers g 0 ≡ O g
  unfolding outers
  outers-at g l = get_or-tabulate 0 t O 0 g l ∙ rw (zero-add g)

  outers-long : length outers ≡ t
  unfolding outers
  outers-long = length-tabulate 0 t O

  outers-rise : EachTwo (λ x y. x < y) outers
  outers-rise = two-intro (λ x y. x < y) outers 0
      (λ i j h l. omega (arith, outers-at i (omega (arith, outers-long)), outers-at j (omega (arith, outers-long)), outers-less c i j h (omega (arith, outers-long))))

  outers-low : All (λ x. x < N) outers
  outers-low = all-intro (λ x. x < N) outers 0
      (λ g l. let b : g < t = omega (arith, outers-long) in omega (arith, outers-at g b, (group-row c bytes whole there g b).outer-in, count-is))

  -- a chosen word's group
  group_of : (a : ℕ) → a < k → (g : ℕ) × (g < t) × (start_of n w g ≤ a) × (a < start_of n w (g + 1)) × (get_or w a 0 / 65536 ≡ O g)
  group_of a h = let q = c.groups.at a h in (q.0, q.1, q.2, q.3, c.groups.same q.0 a q.1 q.2 q.3)

  stay-group : (g : ℕ) → g < t → stays p u (O g) ≡ true
  stay-group g l =
      let b = start-in c g l in
      let r = group-row c bytes whole there g l in
      let x = get_or w (start_of n w g) 0 in
      let e : x / 65536 * 65536 + x % 65536 ≡ x = omega arith in
      stays-yes p u (O g) (x % 65536) (table_at s (offset_at s (O g))) r.slot (omega (arith, r.row, row-long (offset_at s (O g))))
      (rw e (word-used c (start_of n w g) (omega (arith, b.0, b.1))))

  outers-has : (x : ℕ) → x < N → stays p u x ≡ has outers x
  outers-has x h = go (which (has outers x)) (which (stays p u x))
    where
      go : Which (has outers x) → Which (stays p u x) → stays p u x ≡ has outers x
      go (holds e) y =
          let q = has-place outers x e in
          let l : q.0 < t = omega (arith, q.1, outers-long) in
          let z : O q.0 ≡ x = sym (outers-at q.0 l) ∙ q.2 in
          rw z at (stay-group q.0 l) ∙ sym e
      go (fails e) (fails y) = y ∙ sym e
      go (fails e) (holds y) =
          let q = stays-row p u x y in
          let f = rw q.2 at (all-get_or (SlotFits (length p.regions)) p.tables x none shaped.tables-fit h) in
          let a = used-word c (x * 65536 + q.1) q.4 in
          let d : get_or w a.0 0 / 65536 ≡ x = omega (arith, a.2, q.3, f.rows_few) in
          let g = group_of a.0 a.1 in
          let z : get_or outers g.0 0 ≡ x = outers-at g.0 g.1 ∙ sym g.4 ∙ d in
          absurd (true-false (rw z at (has-at outers g.0 (omega (arith, g.1, outers-long)))) e)

  pub stay-list : keep (stays p u) (up_to N) ≡ outers
  stay-list = rising-keep (stays p u) N outers outers-rise outers-low outers-has

  rank-outer : (g : ℕ) → g < t → rank (stays p u) (O g) ≡ g
  rank-outer g l = rw (outers-at g l) at (rising-rank (stays p u) N outers outers-rise outers-low outers-has g (omega (arith, outers-long)))

  -- ---- the rows of one

  module _ (g : ℕ) (l : g < t) where
    abbrev at : ℕ
    at = table_of s n w g

    at-is : table_of s n w g ≡ offset_at s (O g)
    unfolding table_of
    at-is = refl

    inners : List ℕ
    inners = tabulate 0 (rows_of n w g) (λ i. get_or w (start_of n w g + i) 0 % 65536)

    inner-at : (i : ℕ) → i < rows_of n w g → get_or inners i 0 ≡ get_or w (start_of n w g + i) 0 % 65536
    unfolding inners
    inner-at i h = get_or-tabulate 0 (rows_of n w g) (λ i. get_or w (start_of n w g + i) 0 % 65536) 0 i h ∙ rw (zero-add i)

    inners-long : length inners ≡ rows_of n w g
    unfolding inners
    inners-long = length-tabulate 0 (rows_of n w g) (λ i. get_or w (start_of n w g + i) 0 % 65536)

    in_group : (i : ℕ) → i < rows_of n w g → (start_of n w g + i < k) × (get_or w (start_of n w g + i) 0 / 65536 ≡ O g)
    in_group i h = let b = start-in c g l in (omega (arith, b.0, b.1), c.groups.same g (start_of n w g + i) l (omega arith) (omega (arith, b.0)))

    inners-rise : EachTwo (λ x y. x < y) inners
    inners-rise = two-intro (λ x y. x < y) inners 0
        (λ i j h m.
        let x : i < rows_of n w g = omega (arith, inners-long) in
        let y : j < rows_of n w g = omega (arith, inners-long) in
        let e = in_group i x in
        let f = in_group j y in
        omega (arith, inner-at i x, inner-at j y, e.1, f.1, c.rising.up (start_of n w g + i) (start_of n w g + j) (omega arith) f.0))

    inners-low : All (λ x. x < item_count s (table_of s n w g)) inners
    inners-low = all-intro (λ x. x < item_count s (table_of s n w g)) inners 0
        (λ i m.
        let b = start-in c g l in
        let x : i < rows_of n w g = omega (arith, inners-long) in
        omega (arith, inner-at i x, (fit g l).inner (start_of n w g + i) (omega arith) (omega (arith, b.0))))

    inners-has : (x : ℕ) → x < item_count s (table_of s n w g) → u (O g) x ≡ has inners x
    inners-has x h = go (which (has inners x)) (which (u (O g) x))
      where
        go : Which (has inners x) → Which (u (O g) x) → u (O g) x ≡ has inners x
        go (holds e) y =
            let q = has-place inners x e in
            let m : q.0 < rows_of n w g = omega (arith, q.1, inners-long) in
            let i = in_group q.0 m in
            let z : O g * 65536 + x ≡ get_or w (start_of n w g + q.0) 0 = omega (arith, inner-at q.0 m, q.2, i.1) in
            rw z (word-used c (start_of n w g + q.0) i.0) ∙ sym e
        go (fails e) (fails y) = y ∙ sym e
        go (fails e) (holds y) =
            let a = used-word c (O g * 65536 + x) y in
            let small = be-two s bytes (table_of s n w g) in
            let d : get_or w a.0 0 / 65536 ≡ O g = omega (arith, a.2) in
            let q = group_of a.0 a.1 in
            let z : q.0 ≡ g = outers-same c q.0 g q.1 l (sym q.4 ∙ d) in
            let lo : start_of n w g ≤ a.0 = rw z at q.2 in
            let hi : a.0 < start_of n w (g + 1) = rw z at q.3 in
            let i : a.0 - start_of n w g < rows_of n w g = omega arith in
            let v : start_of n w g + (a.0 - start_of n w g) ≡ a.0 = omega arith in
            let f : get_or inners (a.0 - start_of n w g) 0 ≡ x = inner-at (a.0 - start_of n w g) i ∙ (rw v (omega (arith, a.2))) in
            absurd (true-false (rw f at (has-at inners (a.0 - start_of n w g) (omega (arith, inners-long)))) e)

    inner-keep : keep (u (O g)) (up_to (item_count s (table_of s n w g))) ≡ inners
    inner-keep = rising-keep (u (O g)) (item_count s (table_of s n w g)) inners inners-rise inners-low inners-has

    rank-inner : (i : ℕ) → i < rows_of n w g → rank (u (O g)) (get_or w (start_of n w g + i) 0 % 65536) ≡ i
    rank-inner i h = rw (inner-at i h) at (rising-rank (u (O g)) (item_count s (table_of s n w g)) inners inners-rise inners-low inners-has i (omega (arith, inners-long)))

    -- the row that a chosen word names
    pub row_of : ℕ → List ℕ
    row_of i = seg (rows_at s (table_of s n w g) + get_or w (start_of n w g + i) 0 % 65536 * row_long s (table_of s n w g)) (row_long s (table_of s n w g)) s

    rows_are : picked (u (O g)) [] (table_at s (table_of s n w g)).rows ≡ tabulate 0 (rows_of n w g) row_of
    unfolding picked table_at inners row_of
    rows_are =
        let a = table_of s n w g in
        let ps = parts s (rows_at s a) (row_long s a) (item_count s a) in
        rw (parts-long s (rows_at s a) (row_long s a) (item_count s a))
        (ap (map (λ j. get_or ps j [])) inner-keep
        ∙ map-tabulate (λ j. get_or ps j []) 0 (rows_of n w g) (λ i. get_or w (start_of n w g + i) 0 % 65536)
        ∙ tabulate-same 0 (rows_of n w g) (λ i. get_or ps (get_or w (start_of n w g + i) 0 % 65536) []) (λ i. seg (rows_at s a + get_or w (start_of n w g + i) 0 % 65536 * row_long s a) (row_long s a) s)
        (λ i x y.
        let b = start-in c g l in
        parts_at s (rows_at s a) (row_long s a) (item_count s a) (get_or w (start_of n w g + i) 0 % 65536) ((fit g l).inner (start_of n w g + i) (omega arith) (omega (arith, b.0)))))

    -- the subtable that is left
    cut-is : cut_at p u (O g) ≡ some (record { word = word_at s (table_of s n w g); columns = regions_at s (table_of s n w g); rows = tabulate 0 (rows_of n w g) row_of })
    unfolding cut
    cut-is =
        rw ((group-row c bytes whole there g l).slot, ← at-is)
        (ap some (λ i. record { word = word_same i; columns = columns-same i; rows = rows_are i }))
      where
        word_same : (table_at s (table_of s n w g)).word ≡ word_at s (table_of s n w g)
        word_same = unfold table_at in refl

        columns-same : (table_at s (table_of s n w g)).columns ≡ regions_at s (table_of s n w g)
        columns-same = unfold table_at in refl

    place_at : (i : ℕ) → i < rows_of n w g → new_place p u (get_or w (start_of n w g + i) 0) ≡ get_or w (n + (start_of n w g + i)) 0
    unfolding new_place
    place_at i h =
        let b = start-in c g l in
        let e = in_group i h in
        let q = c.groups.place g (start_of n w g + i) l (omega arith) (omega (arith, b.0)) in
        rw (e.1, rank-outer g l, rank-inner i h) (omega (arith, q))

  -- ---- all of it

  -- the g-th subtable left, with the old numbers of its regions
  unfoldable pub cut_table : ℕ → Table
  cut_table g = record {
    word = word_at s (table_of s n w g);
    columns = regions_at s (table_of s n w g);
    rows = tabulate 0 (rows_of n w g) (λ i. seg (rows_at s (table_of s n w g) + get_or w (start_of n w g + i) 0 % 65536 * row_long s (table_of s n w g)) (row_long s (table_of s n w g)) s);
  }

  pub left_is : left p u ≡ tabulate 0 t (λ g. some (cut_table g))
  unfolding left outers cut_table row_of
  left_is =
      ap (map (cut_at p u)) stay-list
      ∙ map-tabulate (cut_at p u) 0 t O
      ∙ tabulate-same 0 t (λ g. cut_at p u (O g)) (λ g. some (cut_table g)) (λ g x y. cut-is g (omega arith))

  pub left-named : (r : ℕ) → named (left p u) r ≡ named (tables_of s n w t) r
  unfolding cut_table table_at
  left-named r = ap (λ (ts : List (Option Table)). named ts r) left_is ∙ named-same 0 t r cut_table (λ g. table_at s (table_of s n w g)) (λ g. refl)

  -- the place of a chosen word stands n words behind it
  pub places-are : (a : ℕ) → a < k → new_place p u (get_or w a 0) ≡ get_or w (n + a) 0
  places-are a h =
      let q = group_of a h in
      let v : start_of n w q.0 + (a - start_of n w q.0) ≡ a = omega (arith, q.2) in
      rw v at (place_at q.0 q.1 (a - start_of n w q.0) (omega (arith, q.2, q.3)))

  -- how many rows there are
  rows-sum : (g : ℕ) → g ≤ t → sum (λ h. rows_of n w h) g ≡ start_of n w g
  rows-sum zero h = unfold sum in sym c.groups.first
  rows-sum (suc g) h =
      let z : g + 1 ≡ suc g = omega arith in
      let e : sum (λ h. rows_of n w h) g + rows_of n w g ≡ start_of n w (g + 1) = omega (arith, rows-sum g (omega arith), (start-in c g (omega arith)).0) in
      rw z at (sum-next (λ h. rows_of n w h) g ∙ e)

  pub rows-total : weigh row_count (tabulate 0 t (λ g. some (cut_table g))) ≡ k
  unfolding row_count cut_table
  rows-total =
      weigh-tabulate row_count (λ g. some (cut_table g)) t
      ∙ counts
      ∙ rows-sum t (omega arith) ∙ c.groups.last
    where
      counts : sum (λ g. length (tabulate 0 (rows_of n w g) (λ i. seg (rows_at s (table_of s n w g) + get_or w (start_of n w g + i) 0 % 65536 * row_long s (table_of s n w g)) (row_long s (table_of s n w g)) s))) t ≡ sum (λ h. rows_of n w h) t
      counts = sum_same (λ h. rows_of n w h) (λ g. length (tabulate 0 (rows_of n w g) (λ i. seg (rows_at s (table_of s n w g) + get_or w (start_of n w g + i) 0 % 65536 * row_long s (table_of s n w g)) (row_long s (table_of s n w g)) s))) t
          (λ g h. length-tabulate 0 (rows_of n w g) (λ i. seg (rows_at s (table_of s n w g) + get_or w (start_of n w g + i) 0 % 65536 * row_long s (table_of s n w g)) (row_long s (table_of s n w g)) s))
