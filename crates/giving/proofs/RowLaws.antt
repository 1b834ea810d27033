-- A row that is compared with a set, from the three loops to the answer. Assumes nothing.
use mathlib.Core.Path.{◌≡◌, refl, sym, ap, subst, ◌∙◌}
use mathlib.Core.Bool.{Bool, true, false, not}
use mathlib.Core.List.{List, [], ◌∷◌}
use mathlib.Core.Logic.{◌⊎◌, inl, inr, ⊎_elim}
use Prim.Native.Nat.{ℕ, zero, suc, ◌+◌, ◌-◌, ◌*◌, ◌^◌, ◌≤◌, ◌<◌}
use native.Mathlib.Omega.{arith}
use lib.IntN.{pos}
use lib.ListN.{length, get_or}
use borrow.Author.Tests.{not-true, not-false, lt-ltb}
use Rattle.laws.specs.LentRange.{Only}
use Rattle.laws.specs.Signed.{signed, value, zero_word}
use Rattle.laws.proofs.BytesLaws.{pow-top}
use Rattle.laws.proofs.Cases.{Tri, tri, lt-or-ge, same_or_not, true-false}
use Rattle.laws.proofs.Cases.Tri.{below, same, above}
use Rattle.laws.proofs.Products.{row_fits}
use Rattle.laws.proofs.RangeLaws.{only-trans}
use Rattle.sets.specs.Lent.{entries}
use Rattle.reader.specs.declared.column.Column.{Column}
use Rattle.reader.specs.declared.column.Column.TheVariants.{At, Missing}
use Rattle.reader.specs.Store.{find, absent, are_columns_ok, column_start, column_width, column_count, item_count, word_at, regions_at, is_subtable_ok, cell, value_of}
use Rattle.reader.proofs.StoreLaws.{SubtableFits, subtable-fits, words-length, words-at, find-below, find_at, absent-at, ok-once}
use Rattle.stores.proofs.PartLaws.{be-two}
use Rattle.stores.proofs.WholeLaws.{subtable-named}
use Rattle.cells.specs.Lent.{cell_of}
use Rattle.giving.specs.declared.entries.Aims.{Aims}
use Rattle.giving.specs.Lent.{aim_at, aim, Laid, Met, column_of, cell_at, ColumnsFit, Nonzero, Passed, row_value, Given, RowFit, RowJudged}
use Rattle.giving.proofs.LayLaws.{Aiming, aim-cases, aim_kept}
use Rattle.giving.proofs.PassLaws.{ahead-kept, value-once, column-low, column-once}

-- the value of zero's word, and no other word has it
zero_is : value zero_word ≡ pos 0
unfolding value
zero_is = refl

-- ---- the column of a region

find-here : (r : ℕ) (l : List ℕ) → are_columns_ok r l ≡ true → (j : ℕ) → j < length l → find (get_or l j 0) 0 l ≡ At j
find-here r l ok j h = go (find (get_or l j 0) 0 l) refl
  where
    go : (c : Column) → find (get_or l j 0) 0 l ≡ c → c ≡ At j
    go Missing e = absurd (absent-at (get_or l j 0) 0 l (ap absent e) j h refl)
    go (At i) e =
        let a = find_at (get_or l j 0) 0 l i e in
        let b = find-below (get_or l j 0) 0 l i e in
        let z : i - 0 ≡ i = omega arith in
        let f : get_or l i 0 ≡ get_or l j 0 = rw z at a.1 in
        pick_same (tri i j) (omega (arith, b)) f
      where
        pick_same : Tri i j → i < length l → get_or l i 0 ≡ get_or l j 0 → At i ≡ At j
        pick_same (below m) b f = absurd (ok-once r l ok i j m h (sym f))
        pick_same (same m) b f = ap At m
        pick_same (above m) b f = absurd (ok-once r l ok j i m b f)

find_none : (x : ℕ) (l : List ℕ) → ((j : ℕ) → j < length l → get_or l j 0 ≡ x → ⊥) → find x 0 l ≡ Missing
find_none x l d = go (find x 0 l) refl
  where
    go : (c : Column) → find x 0 l ≡ c → c ≡ Missing
    go Missing e = refl
    go (At i) e =
        let a = find_at x 0 l i e in
        let b = find-below x 0 l i e in
        let z : i - 0 ≡ i = omega arith in
        let f : get_or l i 0 ≡ x = rw z at a.1 in
        absurd (d i (omega arith) f)

module _ (s : List ℕ) (at inner regions : ℕ) (good : is_subtable_ok s at regions ≡ true) where
  abbrev n : ℕ
  n = column_count s at

  abbrev word : ℕ
  word = word_at s at

  abbrev row : ℕ
  row = at + 6 + 2 * n + inner * column_start word n

  long : length (regions_at s at) ≡ n
  long = words-length s (at + 6) n

  pub row-column : (j : ℕ) → j < n → row_value s at inner (column_of s (at + 6) j) ≡ cell_at s row word j
  unfolding cell value_of
  row-column j h =
      let e = words-at s (at + 6) n j h in
      let f : find (column_of s (at + 6) j) 0 (regions_at s at) ≡ At j =
      (rw e at (find-here regions (regions_at s at) (subtable-named s at regions good) j (omega (arith, long)))) in
      rw f

  pub row-none : (q : ℕ) → ((j : ℕ) → j < n → column_of s (at + 6) j ≡ q → ⊥) → row_value s at inner q ≡ pos 0
  unfolding value_of
  row-none q d =
      rw (find_none q (regions_at s at) (λ j l e. d j (omega (arith, long)) (sym (words-at s (at + 6) n j (omega (arith, long))) ∙ e)))

-- a cell of zeros is zero
cell-zero : (s : List ℕ) (row word j : ℕ) → cell_of s row word j ≡ 0 → cell_at s row word j ≡ pos 0
unfolding signed
cell-zero s row word j e =
    let l : 0 ≤ column_width word j = omega arith in
    let h : 256 ^ 0 ≤ 256 ^ column_width word j = pow-top (column_width word j) l in
    rw (e, lt-ltb 0 (256 ^ column_width word j) (omega arith)) refl

-- a region has a column or none
column-or : (s : List ℕ) (at n q : ℕ) → ((j : ℕ) × (j < n) × (column_of s at j ≡ q)) ⊎ ((j : ℕ) → j < n → column_of s at j ≡ q → ⊥)
column-or s at zero q = inr (λ j l e. omega arith)
column-or s at (suc n) q = ⊎_elim
    (λ (a : (j : ℕ) × (j < n) × (column_of s at j ≡ q)). inl (a.0, omega (arith, a.1), a.2))
    (λ (d : (j : ℕ) → j < n → column_of s at j ≡ q → ⊥). ⊎_elim
    (λ (e : column_of s at n ≡ q). inl (n, omega arith, e))
    (λ f. inr (λ j l e. ⊎_elim (λ (m : j < n). d j m e) (λ (m : n ≤ j). let z : j ≡ n = omega arith in f (rw z at e)) (lt-or-ge j n)))
    (same_or_not (column_of s at n) q))
    (column-or s at n q)

-- ---- the answer

-- where the row is, by what was read
pub row_is : (s : List ℕ) (at inner w m k : ℕ) → w ≡ word_at s at → m ≡ column_count s at → k ≡ column_start w m
    → at + 6 + 2 * m + inner * k ≡ at + 6 + 2 * column_count s at + inner * column_start (word_at s at) (column_count s at)
row_is s at inner w m k e f g = rw (g, e, f) refl

pub laid-true : {start count : ℕ} {t : Aims} {old new : List ℕ} {ok : Bool} → Laid start count t old new ok → not ok ≡ false → Laid start count t old new true
laid-true {start} {count} {t} {old} {new} {ok} l h = subst (λ (b : Bool). Laid start count t old new b) (not-false ok h) l

pub passed-true : {s : List ℕ} {at row word n : ℕ} {t : Aims} {old new : List ℕ} {ok : Bool} → Passed s at row word n t old new ok → not ok ≡ false
    → Passed s at row word n t old new true
passed-true {s} {at} {row} {word} {n} {t} {old} {new} {ok} l h = subst (λ (b : Bool). Passed s at row word n t old new b) (not-false ok h) l

module _ (s : List ℕ) (at inner start count : ℕ) (t : Aims) (old : List ℕ) (f : RowFit s at inner old start count t) where
  module _ (laid : List ℕ) where
    module _ (l : Laid start count t old laid true) (bytes : (k : ℕ) → get_or s k 0 < 256)
        (w m r : ℕ) (w-is : w ≡ word_at s at) (m-is : m ≡ column_count s at) (r-is : r ≡ at + 6 + 2 * column_count s at + inner * column_start (word_at s at) (column_count s at)) where
      sub : SubtableFits s at
      sub = subtable-fits s at t.listed f.good

      pub columns-fit : ColumnsFit s (at + 6) r w m laid t
      columns-fit = record {
        word_low = rw w-is (be-two s bytes (at + 2));
        columns-few = rw m-is (be-two s bytes (at + 4));
        columns-in = omega (arith, m-is, sub.rows);
        cells_in = rw (w-is, m-is, r-is) (omega (arith, sub.rows, row_fits (column_start (word_at s at) (column_count s at)) (item_count s at) inner f.inner-in));
        named = rw m-is (subtable-named s at t.listed f.good);
        room = f.behind;
        ahead = ahead-kept l.only f.behind f.ahead;
      }

      column-cell : (j : ℕ) → j < m → row_value s at inner (column_of s (at + 6) j) ≡ cell_at s r w j
      column-cell j h = rw (w-is, r-is) (row-column s at inner t.listed f.good j (omega (arith, m-is)))

      no-column : (q : ℕ) → ((j : ℕ) → j < m → column_of s (at + 6) j ≡ q → ⊥) → row_value s at inner q ≡ pos 0
      no-column q d = row-none s at inner t.listed f.good q (λ j h. d j (omega (arith, m-is)))

      column-in : (j : ℕ) → j < m → column_of s (at + 6) j < t.listed
      column-in j h = column-low s (at + 6) r w m t laid columns-fit j h

      -- the column of a region, where its cell is not zero; else the row has zero for the region
      module _ (q : ℕ) where
        abbrev Seen : Type 0
        Seen = (j : ℕ) × (j < m) × Nonzero s r w j × (column_of s (at + 6) j ≡ q)

        abbrev Unseen : Type 0
        Unseen = (row_value s at inner q ≡ pos 0) × ((j : ℕ) → j < m → Nonzero s r w j → column_of s (at + 6) j ≡ q → ⊥)

        -- two columns of one region are one
        zero-there : (i j : ℕ) → i < m → j < m → column_of s (at + 6) i ≡ q → column_of s (at + 6) j ≡ q → cell_of s r w i ≡ 0 → Nonzero s r w j → ⊥
        zero-there i j a b e f z d = go (tri i j)
          where
            go : Tri i j → ⊥
            go (below l) = column-once s (at + 6) r w m t laid columns-fit i j l b (e ∙ sym f)
            go (same l) = d (ap (λ (k : ℕ). cell_of s r w k) (sym l) ∙ z)
            go (above l) = column-once s (at + 6) r w m t laid columns-fit j i l a (f ∙ sym e)

        seen-or : Seen ⊎ Unseen
        seen-or = ⊎_elim
            (λ (a : (j : ℕ) × (j < m) × (column_of s (at + 6) j ≡ q)). ⊎_elim
            (λ (z : cell_of s r w a.0 ≡ 0).
            inr (
              ap (row_value s at inner) (sym a.2) ∙ column-cell a.0 a.1 ∙ cell-zero s r w a.0 z,
              λ j l d e. zero-there a.0 j a.1 l a.2 e z d,
            ))
            (λ d. inl (a.0, a.1, d, a.2))
            (same_or_not (cell_of s r w a.0) 0))
            (λ (d : (j : ℕ) → j < m → column_of s (at + 6) j ≡ q → ⊥). inr (no-column q d, λ j l x e. d j l e))
            (column-or s (at + 6) m q)

      module _ (passed : List ℕ) where
        pub not-passed : {ok : Bool} → Passed s (at + 6) r w m t laid passed ok → not ok ≡ true → RowJudged s at inner start count t old passed false
        not-passed {ok} p h = record {
          only = only-trans l.only p.only;
          given = λ z. absurd (true-false z refl);
          clean = λ z. absurd (true-false z refl);
          not-given = λ z g.
              let x = p.other (not-true ok h) in
              let q = column_of s (at + 6) x.column in
              let b = column-in x.column x.within in
              x.differs (ap value (l.is refl q b) ∙ sym (g.reads q b) ∙ column-cell x.column x.within);
        }

        module _ (p : Passed s (at + 6) r w m t laid passed true) where
          all-only : Only ((t.values, t.listed) ∷ []) old passed
          all-only = only-trans l.only p.only

          aims_same : (i : ℕ) → i < count → aim_at passed t (start + 2 * i) ≡ aim_at old t (start + 2 * i)
          aims_same = aim_kept start count t old passed f.fits all-only

          abbrev aimed : ℕ → ℕ
          aimed q = aim old t (entries start count old) q

          -- a listed region that the row has zero for has the set's word still
          stays : (q : ℕ) → q < t.listed → Unseen q → get_or passed (t.values + q) 0 ≡ aimed q
          stays q b d = p.rest refl q b d.1 ∙ l.is refl q b

          module _ (ok : Bool) (e : Met passed start count t ok) where
            none_left : ok ≡ true → (q : ℕ) → q < t.listed → Unseen q → aimed q ≡ zero_word
            none_left z q b d = ⊎_elim
                (λ (a : aimed q ≡ zero_word). a)
                (λ (a : Aiming old t start count q).
                sym (stays q b d)
                ∙ ap (λ (k : ℕ). get_or passed (t.values + k) 0) (sym (aims_same a.entry a.within ∙ a.aims))
                ∙ e.met z a.entry a.within)
                (aim-cases old t count start q)

            reads : ok ≡ true → (q : ℕ) → q < t.listed → row_value s at inner q ≡ value (aimed q)
            reads z q b = ⊎_elim
                (λ (a : Seen q).
                ap (row_value s at inner) (sym a.3)
                ∙ column-cell a.0 a.1
                ∙ sym (p.same refl a.0 a.1 a.2)
                ∙ ap (λ (k : ℕ). value (get_or laid (t.values + k) 0)) a.3
                ∙ ap value (l.is refl q b))
                (λ (d : Unseen q). d.0 ∙ sym (ap value (none_left z q b d) ∙ zero_is))
                (seen-or q)

            cleaned : ok ≡ true → (q : ℕ) → q < t.listed → get_or passed (t.values + q) 0 ≡ zero_word
            cleaned z q b = ⊎_elim
                (λ (a : Seen q). ap (λ (k : ℕ). get_or passed (t.values + k) 0) (sym a.3) ∙ p.crossed refl a.0 a.1 a.2)
                (λ (d : Unseen q). stays q b d ∙ none_left z q b d)
                (seen-or q)

            -- an entry whose region the row has zero for
            left_over : ok ≡ false → Given s at inner old start count t → ⊥
            left_over z g =
                let x = e.unmet z in
                let q = aim_at old t (start + 2 * x.entry) in
                let b = l.listed-all refl x.entry x.within in
                let here : aim_at passed t (start + 2 * x.entry) ≡ q = aims_same x.entry x.within in
                ⊎_elim
                (λ (a : Seen q).
                x.differs (ap (λ (k : ℕ). get_or passed (t.values + k) 0) (here ∙ sym a.3) ∙ p.crossed refl a.0 a.1 a.2))
                (λ (d : Unseen q).
                x.differs (ap (λ (k : ℕ). get_or passed (t.values + k) 0) here ∙ stays q b d
                ∙ value-once (aimed q) zero_word (sym (g.reads q b) ∙ d.0 ∙ sym zero_is)))
                (seen-or q)

            pub row-judged : RowJudged s at inner start count t old passed ok
            row-judged = record {
              only = all-only;
              given = λ z. record { listed-all = l.listed-all refl; reads = reads z };
              clean = λ z. record { zero = cleaned z };
              not-given = left_over;
            }
