-- The regions that are named: marks, and numbers. Assumes nothing.
use mathlib.Core.Path.{◌≡◌, refl, sym, ap, ◌∙◌}
use mathlib.Core.Bool.{Bool, true, false, ◌||◌, or-true, or-false}
use mathlib.Core.List.{List, [], ◌∷◌, ◌++◌}
use mathlib.Core.Logic.{⊎_elim}
use mathlib.Core.Option.{Option, none, some}
use Prim.Native.Nat.{ℕ, suc, ◌+◌, ◌-◌, ◌*◌, ◌≤◌, ◌<◌}
use native.Mathlib.Omega.{arith}
use lib.Dec.{eqb}
use lib.ListN.{length, get_or, take, drop, set, length-set}
use borrow.Rule.Slice.PartMut.{put_mid}
use lib.Seq.{get_or-set_same, get_or-set_other}
use borrow.Author.Tests.{eq-eqb, ne_eqb, eqb-true}
use Rattle.laws.specs.Bounded.{tabulate}
use Rattle.laws.specs.LentRange.{seg}
use Rattle.laws.specs.Bytes.{be}
use Rattle.laws.specs.Sorting.{keep, rank}
use Rattle.laws.proofs.Cases.{lt-or-ge, true-false, Which, which}
use Rattle.laws.proofs.Cases.Which.{holds, fails}
use Rattle.laws.proofs.BoundedLaws.{tabulate-snoc}
use Rattle.laws.proofs.EveryLaws.{all-get_or}
use Rattle.laws.proofs.RangeLaws.{length-seg, get_or-seg, only-refl, only-trans}
use Rattle.laws.proofs.PartLaws.{only-mid, seg-mid}
use Rattle.laws.proofs.RankLaws.{rank-in, rank-out, rank_most}
use Rattle.reader.specs.Store.{region_count, column_count, regions_at}
use Rattle.reader.proofs.StoreLaws.{words-length, words-at, ok-below}
use Rattle.stores.specs.Stores.{Table, table_at}
use Rattle.stores.specs.Dropping.{has, named}
use Rattle.stores.proofs.Picking.{has_all}
use Rattle.stores.proofs.WholeLaws.{subtable-named}
use Rattle.cutting.specs.LentCut.{table_of, TableFit, StoreFit, CutIs, marked, number_of, ColumnsMarked, tables_of, TablesMarked, NumberedAt}
use Rattle.cutting.proofs.CutLaws.{fits, table_kept, fit-kept}

-- ---- what a list has

pub has-place : (l : List ℕ) (x : ℕ) → has l x ≡ true → (j : ℕ) × (j < length l) × (get_or l j 0 ≡ x)
unfolding has
has-place [] x h = let z : ◌≡◌ {A = ℕ} 0 1 = cc in absurd (omega arith)
has-place (y ∷ l) x h = go (which (eqb y x)) (λ r. has-place l x r)
  where
    go : Which (eqb y x) → (has l x ≡ true → (j : ℕ) × (j < length l) × (get_or l j 0 ≡ x)) → (j : ℕ) × (j < suc (length l)) × (get_or (y ∷ l) j 0 ≡ x)
    go (holds e) rec = (0, omega arith, eqb-true y x e)
    go (fails e) rec = let q = rec (rw e at h) in (suc q.0, omega (arith, q.1), q.2)

pub has-at : (l : List ℕ) (j : ℕ) → j < length l → has l (get_or l j 0) ≡ true
has-at l j h = all-get_or (λ x. has l x ≡ true) l j 0 (has_all l) h

named-append : (ts : List (Option Table)) (t : Table) (r : ℕ) → named (ts ++ (some t ∷ [])) r ≡ named ts r || has t.columns r
unfolding named
named-append [] t r = or-false (has t.columns r)
named-append (none ∷ ts) t r = named-append ts t r
named-append (some x ∷ ts) t r = go (has x.columns r) (named-append ts t r)
  where
    go : (b : Bool) → named (ts ++ (some t ∷ [])) r ≡ named ts r || has t.columns r → b || named (ts ++ (some t ∷ [])) r ≡ (b || named ts r) || has t.columns r
    go true e = refl
    go false e = e

named-next : (s : List ℕ) (n : ℕ) (w : List ℕ) (g r : ℕ) → named (tables_of s n w (g + 1)) r ≡ named (tables_of s n w g) r || has (regions_at s (table_of s n w g)) r
unfolding table_at
named-next s n w g r =
    let f : ℕ → Option Table = (λ h. some (table_at s (table_of s n w h))) in
    ap (λ (l : List (Option Table)). named l r) (tabulate-snoc 0 g f)
    ∙ (let z : 0 + g ≡ g = omega arith in rw z (named-append (tabulate 0 g f) (table_at s (table_of s n w g)) r))

-- ---- the marks of all subtables: the promise for the first g of them

module _ {s : List ℕ} {n t : ℕ} {old : List ℕ} (f : StoreFit s n old t) where
  abbrev m : ℕ
  m = 3 * n + 1

  pub tables_start : ((r : ℕ) → r < region_count s → get_or old (3 * n + 1 + r) 0 ≡ 0) → TablesMarked s n 0 old old
  unfolding tabulate named
  tables_start z = record {
    only = only-refl ((3 * n + 1, region_count s) ∷ []) old;
    is = λ r h. rw (eq-eqb (get_or old (3 * n + 1 + r) 0) 0 (z r h));
  }

  module _ {new : List ℕ} {g : ℕ} (h : TablesMarked s n g old new) (l : g < t) where
    pub fit-now : TableFit s n new g
    fit-now = fit-kept h.only (omega (arith, f.most)) (f.table g l)

    table-now : table_of s n new g ≡ table_of s n old g
    table-now = table_kept h.only (omega (arith, f.most)) (f.table g l)

    module _ {at word columns from rows : ℕ} (c : CutIs s n new g at word columns from rows) where
      -- the columns of the subtable
      cols : List ℕ
      cols = regions_at s (table_of s n old g)

      at-is : at ≡ table_of s n old g
      at-is = c.at-is ∙ table-now

      columns-are : columns ≡ column_count s (table_of s n old g)
      columns-are = c.columns-is ∙ ap (column_count s) table-now

      col-at : (j : ℕ) → j < columns → get_or (regions_at s (table_of s n old g)) j 0 ≡ be 2 s (at + 6 + 2 * j)
      col-at j b = words-at s (table_of s n old g + 6) (column_count s (table_of s n old g)) j (omega (arith, columns-are)) ∙ rw (← at-is)

      pub col-low : (j : ℕ) → j < columns → be 2 s (at + 6 + 2 * j) < region_count s
      col-low j b =
          let a = ok-below (region_count s) (regions_at s (table_of s n old g)) (subtable-named s (table_of s n old g) (region_count s) (f.table g l).good) j
          (omega (arith, columns-are, words-length s (table_of s n old g + 6) (column_count s (table_of s n old g)))) in
          rw (col-at j b) at a

      pub columns-in : (at + 6 + 2 * columns ≤ length s)
      columns-in = let a = fits (f.table g l) in omega (arith, a.rows, at-is, columns-are)

      pub marks-in : (j : ℕ) → j < columns → 3 * n + 1 + be 2 s (at + 6 + 2 * j) < length new
      marks-in j b = omega (arith, col-low j b, f.room, h.only.long)

      module _ {next : List ℕ} (k : ColumnsMarked s (at + 6) columns (3 * n + 1) new next) where
        step : (r : ℕ) → r < region_count s → marked (3 * n + 1) next r ≡ named (tables_of s n old g) r || has (regions_at s (table_of s n old g)) r
        step r b = go (which (has (regions_at s (table_of s n old g)) r))
          where
            go : Which (has (regions_at s (table_of s n old g)) r) → marked (3 * n + 1) next r ≡ named (tables_of s n old g) r || has (regions_at s (table_of s n old g)) r
            go (holds e) =
                let q = has-place (regions_at s (table_of s n old g)) r e in
                let j-in : q.0 < columns = omega (arith, q.1, columns-are, words-length s (table_of s n old g + 6) (column_count s (table_of s n old g))) in
                let i : be 2 s (at + 6 + 2 * q.0) ≡ r = sym (col-at q.0 j-in) ∙ q.2 in
                let o : get_or next (3 * n + 1 + r) 0 ≡ 1 = rw i at (k.some-are q.0 j-in) in
                let d : get_or next (3 * n + 1 + r) 0 ≡ 0 → ⊥ = (λ z. omega arith) in
                rw (e, or-true (named (tables_of s n old g) r), ne_eqb (get_or next (3 * n + 1 + r) 0) 0 d)
            go (fails e) =
                let same : get_or next (3 * n + 1 + r) 0 ≡ get_or new (3 * n + 1 + r) 0 = k.none-else (3 * n + 1 + r)
                (λ j j-in q.
                let i : be 2 s (at + 6 + 2 * j) ≡ r = omega arith in
                let y = has-at (regions_at s (table_of s n old g)) j (omega (arith, columns-are, words-length s (table_of s n old g + 6) (column_count s (table_of s n old g)))) in
                true-false (rw (col-at j j-in, i) at y) e) in
                rw (e, or-false (named (tables_of s n old g) r), same) (h.is r b)

        pub tables_more : TablesMarked s n (g + 1) old next
        tables_more = record {
          only = only-trans h.only (record {
            long = k.long;
            kept = λ i o. k.none-else i (λ j j-in q. omega (arith, o.0.apart (omega (arith, col-low j j-in)), col-low j j-in));
          });
          is = λ r b. step r b ∙ sym (named-next s n old g r);
        }

-- ---- numbers

-- the words of the regions, of which the first r have their numbers
pub record NumbersSo (m regions : ℕ) (old words : List ℕ) (k r : ℕ) : Type 0 where
  pub long : length words ≡ regions
  pub count : k ≡ rank (marked m old) r
  pub is : (i : ℕ) → i < r → get_or words i 0 ≡ number_of m old i
  pub later : (i : ℕ) → r ≤ i → i < regions → get_or words i 0 ≡ get_or old (m + i) 0

module _ (m regions : ℕ) (old : List ℕ) (room : m + regions ≤ length old) where
  pub numbers-start : (n : ℕ) → n ≡ regions → NumbersSo m regions old (take n (drop m old)) 0 0
  unfolding keep tabulate seg
  numbers-start n e = rw e (record {
    long = length-seg m regions old room;
    count = refl;
    is = λ i h. absurd (omega arith);
    later = λ i p q. get_or-seg m regions old i q;
  })

  module _ (words : List ℕ) (k r : ℕ) (h : NumbersSo m regions old words k r) (l : r < regions) where
    pub numbers-low : k ≤ r
    numbers-low = omega (arith, h.count, rank_most (marked m old) r)

    pub numbers-in : (get_or words r 0 ≡ 0 → ⊥) → NumbersSo m regions old (set words r (k + 1)) (k + 1) (r + 1)
    numbers-in d =
        let e : marked m old r ≡ true = rw (ne_eqb (get_or old (m + r) 0) 0 (λ z. d (h.later r (omega arith) l ∙ z))) in
        record {
          long = length-set words r (k + 1) ∙ h.long;
          count = sym (rank-in (marked m old) r e ∙ ap (λ (x : ℕ). x + 1) (sym h.count));
          is = λ i b. ⊎_elim
              (λ (c : i < r). get_or-set_other words r i (k + 1) 0 (λ z. omega arith) ∙ h.is i c)
              (λ (c : r ≤ i).
              let z : i ≡ r = omega arith in
              rw (z, e) (omega (arith, get_or-set_same words r (k + 1) 0 (omega (arith, h.long)), h.count)))
              (lt-or-ge i r);
          later = λ i p q. get_or-set_other words r i (k + 1) 0 (λ z. omega arith) ∙ h.later i (omega arith) q;
        }

    pub numbers-out : get_or words r 0 ≡ 0 → NumbersSo m regions old words k (r + 1)
    numbers-out d =
        let a : get_or old (m + r) 0 ≡ 0 = sym (h.later r (omega arith) l) ∙ d in
        let e : marked m old r ≡ false = rw (eq-eqb (get_or old (m + r) 0) 0 a) in
        record {
          long = h.long;
          count = h.count ∙ sym (rank-out (marked m old) r e);
          is = λ i b. ⊎_elim
              (λ (c : i < r). h.is i c)
              (λ (c : r ≤ i). let z : i ≡ r = omega arith in rw (z, e) d)
              (lt-or-ge i r);
          later = λ i p q. h.later i (omega arith) q;
        }

  pub numbers-done : (words : List ℕ) (k r : ℕ) → NumbersSo m regions old words k r → r ≡ regions → NumberedAt m regions old (put_mid m (m + regions - m) old words) k
  numbers-done words k r h e =
      let f : length words ≡ m + regions - m = omega (arith, h.long) in
      record {
        only = only-mid m regions old words room f;
        is = λ i b. sym (get_or-seg m regions (put_mid m (m + regions - m) old words) i b) ∙ ap (λ (x : List ℕ). get_or x i 0) (seg-mid m regions old words room f) ∙ h.is i (omega arith);
        count = h.count ∙ ap (rank (marked m old)) e;
      }
