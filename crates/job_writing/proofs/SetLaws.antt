-- Value and end records, row by row. Assumes nothing.
use mathlib.Core.Path.{◌≡◌, refl, sym, ap, ◌∙◌}
use mathlib.Core.List.{List, [], ◌∷◌, ◌++◌, map, append-nil, append_assoc}
use mathlib.Core.Option.{Option, none, some}
use Prim.Native.Nat.{ℕ, suc, ◌+◌, ◌-◌, ◌*◌, ◌≤◌, ◌<◌}
use native.Mathlib.Omega.{arith}
use lib.ListN.{length}
use borrow.Author.Tests.{eq-eqb, ne_eqb}
use Rattle.laws.specs.Bytes.{be}
use Rattle.laws.specs.Bounded.{tabulate}
use Rattle.laws.specs.Signed.{signed, twos}
use Rattle.reader.specs.Store.{column_width, column_start, word_at, column_count, item_count}
use Rattle.stores.specs.Stores.{Table, table_count, offset_at, rows_at, row_long, table_at, slot_at, store_at}
use Rattle.cells.specs.Lent.{NextCell}
use Rattle.recovering.specs.Recovering.{Row, value_bytes, end_record, entries_of, rows_of, set_bytes, sets_bytes}
use Rattle.tallying.specs.LentTally.{entries_in, rows_in, RowIn}
use Rattle.rows.specs.Lent.{Put}
use Rattle.rows.proofs.PutLaws.{Putting, put-start}
use Rattle.job_writing.proofs.PieceLaws.{piece-room, put-nothing}
use Rattle.tallying.proofs.RowLaws.{left_from, AtCell, entries-from, left-skip, left-more, left-none}
use Rattle.tallying.proofs.TableLaws.{rows_from, rows_are, rows_step, rows_end, rows_all}

-- ---- one row

module _ (s : List ℕ) (row word n names j x : ℕ) (h : j < n) (e : x ≡ be (column_width word j) s (row + column_start word j)) (c : AtCell s row word n j) where
  set-one : (q k y : ℕ) → q ≡ be 2 s (names + 2 * j) → k ≡ column_width word j → y ≡ twos 4 (signed k x)
      → set_bytes (left_from s row word n names j) ≡ value_bytes q y ++ set_bytes (left_from s row word n names (j + 1))
  set-one q k y f d g = ap set_bytes (left-more s row word n names j x h e (λ z. c.there h (sym e ∙ z))) ∙ (unfold set_bytes in rw (f, g, d))

  -- what is left from the next column on that is not zero
  pub set_more : {r : ℕ} → NextCell s row word n (j + 1) r → (q k y : ℕ) → q ≡ be 2 s (names + 2 * j) → k ≡ column_width word j → y ≡ twos 4 (signed k x)
      → set_bytes (left_from s row word n names j) ≡ value_bytes q y ++ set_bytes (left_from s row word n names r)
  set_more m q k y f d g = set-one q k y f d g ∙ ap (λ (l : Row). value_bytes q y ++ set_bytes l) (left-skip s row word n names m)

  pub set_room : {at : ℕ} {all old new : List ℕ} {p : ℕ} → at + length all ≤ length old → Putting at all old new p (set_bytes (left_from s row word n names j)) → p + 12 ≤ length new
  set_room room p =
      let q = be 2 s (names + 2 * j) in
      let k = column_width word j in
      piece-room (value_bytes q (twos 4 (signed k x))) (set_bytes (left_from s row word n names (j + 1))) room p (set-one q k (twos 4 (signed k x)) refl refl refl)

pub set-end : (s : List ℕ) (row word n names j : ℕ) → n ≤ j → set_bytes (left_from s row word n names j) ≡ end_record
set-end s row word n names j h = ap set_bytes (left-none s row word n names j h) ∙ (unfold set_bytes in refl)

-- from the first column that is not zero
pub set-put : (s : List ℕ) (table row : ℕ) → RowIn s table row → (word n : ℕ) → word ≡ word_at s table → n ≡ column_count s table → (at : ℕ) (old : List ℕ) → {f j : ℕ} → NextCell s row word n f j → f ≡ 0
    → Putting at (set_bytes (entries_in s table row)) old old at (set_bytes (left_from s row word n (table + 6) j))
set-put s table row r word n a b at old c e = rw (entries-from s table row r word n a b c e) (put-start at (set_bytes (entries_in s table row)) old)

-- ---- a subtable

pub rows-bytes : (s : List ℕ) (at n i row : ℕ) → i < n → row ≡ rows_at s at + i * row_long s at → sets_bytes (rows_from s at n i) ≡ set_bytes (entries_in s at row) ++ sets_bytes (rows_from s at n (i + 1))
rows-bytes s at n i row h e = ap sets_bytes (rows_step s at n i row h e) ∙ (unfold sets_bytes in refl)

pub rows-room : (s : List ℕ) (at n i row : ℕ) → i < n → row ≡ rows_at s at + i * row_long s at → {from : ℕ} {all old new : List ℕ} {p : ℕ} → from + length all ≤ length old
    → Putting from all old new p (sets_bytes (rows_from s at n i)) → p + length (set_bytes (entries_in s at row)) ≤ length new
rows-room s at n i row h e room p = piece-room (set_bytes (entries_in s at row)) (sets_bytes (rows_from s at n (i + 1))) room p (rows-bytes s at n i row h e)

pub rows_none : (s : List ℕ) (at n i : ℕ) → n ≤ i → sets_bytes (rows_from s at n i) ≡ []
rows_none s at n i h = ap sets_bytes (rows_end s at n i h) ∙ (unfold sets_bytes in refl)

pub table-put : (s : List ℕ) (table n : ℕ) → n ≡ item_count s table → (at : ℕ) (old : List ℕ) → Putting at (sets_bytes (rows_in s table)) old old at (sets_bytes (rows_from s table n 0))
table-put s table n e at old = rw (rows_all s table n e) (put-start at (sets_bytes (rows_in s table)) old)

-- one that may be null
pub slot-null : (s : List ℕ) (at : ℕ) → at ≡ 0 → sets_bytes (rows_of (slot_at s at ∷ [])) ≡ []
unfolding slot_at rows_of sets_bytes
slot-null s at e = rw (eq-eqb at 0 e)

pub slot-there : (s : List ℕ) (at : ℕ) → (at ≡ 0 → ⊥) → sets_bytes (rows_of (slot_at s at ∷ [])) ≡ sets_bytes (rows_in s at)
unfolding slot_at rows_of
slot-there s at d = rw (ne_eqb at 0 d, append-nil (map (entries_of (table_at s at)) (table_at s at).rows), rows_are s at)

pub slot-put-none : (s : List ℕ) (table p : ℕ) (old : List ℕ) → table ≡ 0 → Put p (sets_bytes (rows_of (slot_at s table ∷ []))) old old p
slot-put-none s table p old e = put-nothing p (sets_bytes (rows_of (slot_at s table ∷ []))) old (slot-null s table e)

module _ (s : List ℕ) (table : ℕ) (d : table ≡ 0 → ⊥) where
  pub slot-room : (p long : ℕ) → p + length (sets_bytes (rows_of (slot_at s table ∷ []))) ≤ long → p + length (sets_bytes (rows_in s table)) ≤ long
  slot-room p long h = rw (slot-there s table d) at h

  pub slot-put : {p r : ℕ} {old new : List ℕ} → Put p (sets_bytes (rows_in s table)) old new r → Put p (sets_bytes (rows_of (slot_at s table ∷ []))) old new r
  slot-put h = rw (slot-there s table d) h

-- ---- all of them

sets-append : (l m : List Row) → sets_bytes (l ++ m) ≡ sets_bytes l ++ sets_bytes m
unfolding sets_bytes
sets-append [] m = refl
sets-append (x ∷ l) m = rw (sets-append l m) (sym (append_assoc (set_bytes x) (sets_bytes l) (sets_bytes m)))

rows-cons : (t : Option Table) (ts : List (Option Table)) → sets_bytes (rows_of (t ∷ ts)) ≡ sets_bytes (rows_of (t ∷ [])) ++ sets_bytes (rows_of ts)
unfolding rows_of
rows-cons none ts = unfold sets_bytes in refl
rows-cons (some t) ts = rw (append-nil (map (entries_of t) t.rows)) (sets-append (map (entries_of t) t.rows) (rows_of ts))

-- those from subtable o on
abbrev pub slots_left : List ℕ → (n o : ℕ) → List ℕ
slots_left s n o = sets_bytes (rows_of (tabulate o (n - o) (λ o. slot_at s (offset_at s o))))

slots_next : (s : List ℕ) (n o : ℕ) → o < n
    → tabulate o (n - o) (λ o. slot_at s (offset_at s o)) ≡ slot_at s (offset_at s o) ∷ tabulate (o + 1) (n - (o + 1)) (λ o. slot_at s (offset_at s o))
unfolding tabulate
slots_next s n o h =
    let z : n - o ≡ suc (n - (o + 1)) = omega arith in
    let y : suc o ≡ o + 1 = omega arith in
    rw (z, y)

pub slots-step : (s : List ℕ) (n o at : ℕ) → o < n → at ≡ offset_at s o → slots_left s n o ≡ sets_bytes (rows_of (slot_at s at ∷ [])) ++ slots_left s n (o + 1)
slots-step s n o at h e =
    ap (λ (l : List (Option Table)). sets_bytes (rows_of l)) (slots_next s n o h)
    ∙ rows-cons (slot_at s (offset_at s o)) (tabulate (o + 1) (n - (o + 1)) (λ o. slot_at s (offset_at s o)))
    ∙ rw e

pub slots-room : (s : List ℕ) (n o at : ℕ) → o < n → at ≡ offset_at s o → {from : ℕ} {all old new : List ℕ} {p : ℕ} → from + length all ≤ length old
    → Putting from all old new p (slots_left s n o) → p + length (sets_bytes (rows_of (slot_at s at ∷ []))) ≤ length new
slots-room s n o at h e room p = piece-room (sets_bytes (rows_of (slot_at s at ∷ []))) (slots_left s n (o + 1)) room p (slots-step s n o at h e)

pub slots_end : (s : List ℕ) (n o : ℕ) → n ≤ o → slots_left s n o ≡ []
unfolding tabulate rows_of sets_bytes
slots_end s n o h = let z : n - o ≡ 0 = omega arith in rw z

pub slots-all : (s : List ℕ) (n : ℕ) → n ≡ table_count s → slots_left s n 0 ≡ sets_bytes (rows_of (store_at s).tables)
unfolding store_at
slots-all s n e = let z : n - 0 ≡ table_count s = omega arith in rw z

pub slots-put : (s : List ℕ) (n : ℕ) → n ≡ table_count s → (at : ℕ) (old : List ℕ) → Putting at (sets_bytes (rows_of (store_at s).tables)) old old at (slots_left s n 0)
slots-put s n e at old = rw (slots-all s n e) (put-start at (sets_bytes (rows_of (store_at s).tables)) old)
