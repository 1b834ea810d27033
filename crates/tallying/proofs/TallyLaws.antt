-- Subtables counted one after the other. Assumes nothing.
use mathlib.Core.Path.{◌≡◌, refl, ap, ◌∙◌}
use mathlib.Core.Bool.{true}
use mathlib.Core.List.{List, [], ◌∷◌, map, append-nil}
use mathlib.Core.Option.{Option, none, some}
use Prim.Native.Nat.{ℕ, suc, ◌+◌, ◌-◌, ◌*◌, ◌≤◌, ◌<◌}
use native.Mathlib.Omega.{arith}
use lib.ListN.{length}
use borrow.Author.Tests.{eq-eqb, ne_eqb}
use Rattle.laws.specs.Bag.{weigh}
use Rattle.laws.specs.Bounded.{tabulate}
use Rattle.laws.specs.Bytes.{be}
use Rattle.laws.proofs.BagLaws.{weigh-append}
use Rattle.laws.proofs.BoundedLaws.{length-tabulate}
use Rattle.laws.proofs.Products.{product}
use Rattle.limits.specs.Limits.{most_records}
use Rattle.reader.specs.Store.{list_at, axis_count, region_count, item_count}
use Rattle.reader.proofs.StoreLaws.{subtable-fits, header-fits}
use Rattle.stores.specs.Stores.{Table, table_count, offset_at, rows_at, row_long, table_at, slot_at, store_at, is_whole_ok}
use Rattle.stores.specs.Dropping.{row_count}
use Rattle.stores.proofs.PartLaws.{parts-long}
use Rattle.stores.proofs.WholeLaws.{Slot, Whole, whole_is}
use Rattle.stores.proofs.WholeLaws.Slot.{null, good}
use Rattle.recovering.specs.Recovering.{Row, entries_of, rows_of, set_records, records_of}
use Rattle.tallying.specs.LentTally.{rows_in, TableIn, SlotIn, Added, Tallied}
use Rattle.tallying.proofs.TableLaws.{rows_are}

-- ---- one subtable

weigh-one : (l : List Row) → weigh set_records l ≡ length l + weigh length l
unfolding weigh
weigh-one [] = refl
weigh-one (x ∷ l) = omega (arith, weigh-one l)

rows-one : (t : Table) → rows_of (some t ∷ []) ≡ map (entries_of t) t.rows
unfolding rows_of
rows-one t = append-nil (map (entries_of t) t.rows)

slot-rows : (s : List ℕ) (at : ℕ) → (at ≡ 0 → ⊥) → rows_of (slot_at s at ∷ []) ≡ rows_in s at
unfolding slot_at
slot-rows s at d = rw (ne_eqb at 0 d) (rows-one (table_at s at) ∙ rows_are s at)

slot-none : (s : List ℕ) (at : ℕ) → at ≡ 0 → rows_of (slot_at s at ∷ []) ≡ []
unfolding slot_at rows_of
slot-none s at e = rw (eq-eqb at 0 e)

slot-count : (s : List ℕ) (at : ℕ) → (at ≡ 0 → ⊥) → row_count (slot_at s at) ≡ item_count s at
unfolding slot_at row_count table_at
slot-count s at d = rw (ne_eqb at 0 d) (parts-long s (rows_at s at) (row_long s at) (item_count s at))

slot-count-none : (s : List ℕ) (at : ℕ) → at ≡ 0 → row_count (slot_at s at) ≡ 0
unfolding slot_at row_count
slot-count-none s at e = rw (eq-eqb at 0 e)

rows_long : (s : List ℕ) (at : ℕ) → length (rows_in s at) ≡ item_count s at
unfolding rows_in
rows_long s at = length-tabulate 0 (item_count s at) (λ i. Rattle.tallying.specs.LentTally.entries_in s at (rows_at s at + i * row_long s at))

module _ (s : List ℕ) (at records sets : ℕ) (few : records ≤ most_records) (fewer : sets ≤ records) where
  pub added_none : at ≡ 0 → Added (slot_at s at) records sets records sets
  added_none e =
      let z : weigh set_records (rows_of (slot_at s at ∷ [])) ≡ 0 = ap (weigh set_records) (slot-none s at e) ∙ (unfold weigh in refl) in
      let y = slot-count-none s at e in
      record { most = omega arith; exact = λ h. omega arith; sets-are = omega arith; fewer = omega arith }

  module _ (d : at ≡ 0 → ⊥) (items : ℕ) (e : items ≡ item_count s at) (low : items < 65536) where
    all-is : weigh set_records (rows_of (slot_at s at ∷ [])) ≡ items + weigh length (rows_in s at)
    all-is = ap (weigh set_records) (slot-rows s at d) ∙ weigh-one (rows_in s at) ∙ omega (arith, rows_long s at)

    pub added-over : most_records < records + items → Added (slot_at s at) records sets (records + items) (sets + items)
    added-over o =
        let z = all-is in
        let y = slot-count s at d in
        record { most = omega arith; exact = λ h. absurd (omega arith); sets-are = omega arith; fewer = omega arith }

    pub added-values : (v : ℕ) → v ≡ weigh length (rows_in s at) → v ≤ 65536 * 65536 → Added (slot_at s at) records sets (records + items + v) (sets + items)
    added-values v f l =
        let z = all-is in
        let y = slot-count s at d in
        record { most = omega arith; exact = λ h. omega arith; sets-are = omega arith; fewer = omega arith }

-- ---- all of them

slot-in : (s : List ℕ) (at : ℕ) → Slot s at → SlotIn s at
slot-in s at (null e) = record { there = λ d. absurd (d e) }
slot-in s at (good d h) = record { there = λ d. record { inside = (subtable-fits s at (region_count s) h).rows } }

-- the subtables from o on
abbrev slots_from : List ℕ → (n o : ℕ) → List (Option Table)
slots_from s n o = tabulate o (n - o) (λ o. slot_at s (offset_at s o))

slots-step : (s : List ℕ) (n o : ℕ) → o < n → slots_from s n o ≡ slot_at s (offset_at s o) ∷ slots_from s n (o + 1)
unfolding tabulate
slots-step s n o h =
    let z : n - o ≡ suc (n - (o + 1)) = omega arith in
    let y : suc o ≡ o + 1 = omega arith in
    rw (z, y)

slots_end : (s : List ℕ) (n o : ℕ) → n ≤ o → slots_from s n o ≡ []
unfolding tabulate
slots_end s n o h = let z : n - o ≡ 0 = omega arith in rw z

rows-cons : (t : Option Table) (ts : List (Option Table)) → weigh set_records (rows_of (t ∷ ts)) ≡ weigh set_records (rows_of (t ∷ [])) + weigh set_records (rows_of ts)
unfolding rows_of weigh
rows-cons none ts = omega arith
rows-cons (some t) ts = weigh-append set_records (map (entries_of t) t.rows) (rows_of ts) ∙ rw (append-nil (map (entries_of t) t.rows))

pub record Tallying (s : List ℕ) (n records sets o : ℕ) : Type 0 where
  pub within : o ≤ n
  pub most : records + weigh set_records (rows_of (slots_from s n o)) ≤ records_of (store_at s)
  pub exact : records ≤ most_records → (records + weigh set_records (rows_of (slots_from s n o)) ≡ records_of (store_at s)) × (sets + weigh row_count (slots_from s n o) ≡ weigh row_count (store_at s).tables)
  pub fewer : sets ≤ records

pub axes-from : (s : List ℕ) (list axes : ℕ) → list ≡ list_at s → axes ≡ be 2 s list → axes ≡ axis_count s
axes-from s list axes e f = f ∙ ap (be 2 s) e

pub small_product : (a b : ℕ) → a < 65536 → b < 65536 → a * b ≤ 4294967296
small_product a b h l = let p : a * b ≤ 65536 * 65536 = product 65536 65536 (omega arith) (omega arith) in omega arith

module _ (s : List ℕ) (ok : is_whole_ok s ≡ true) where
  whole : Whole s
  whole = whole_is s ok

  pub head-there : 8 ≤ length s
  head-there = (header-fits s whole.header).head

  pub list-there : list_at s + 4 ≤ length s
  list-there = (header-fits s whole.header).list

  pub offset-in : (n o : ℕ) → n ≡ table_count s → o < n → 8 + 4 * o + 4 ≤ length s
  offset-in n o e h = omega (arith, (header-fits s whole.header).offsets)

  pub slot-there : (n o at : ℕ) → n ≡ table_count s → o < n → at ≡ offset_at s o → SlotIn s at
  slot-there n o at e h a = rw a (slot-in s (offset_at s o) (whole.slots o (omega arith)))

  module _ (axes regions n : ℕ) (a : axes ≡ axis_count s) (b : regions ≡ region_count s) (c : n ≡ table_count s) where
    pub tally-start : Tallying s n (regions * axes) 0 0
    unfolding records_of store_at
    tally-start =
        let z : n - 0 ≡ table_count s = omega arith in
        let l = parts-long s (list_at s + 4) (6 * axis_count s) (region_count s) in
        record {
          within = omega arith;
          most = rw (z, l, a, b) (omega arith);
          exact = λ h. (rw (z, l, a, b), rw z (omega arith));
          fewer = omega arith;
        }

  module _ (n o at records sets : ℕ) (c : n ≡ table_count s) (t : Tallying s n records sets o) (h : o < n) (a : at ≡ offset_at s o) (few : records ≤ most_records) where
    pub tally-more : (records' sets' : ℕ) → Added (slot_at s at) records sets records' sets' → Tallying s n records' sets' (o + 1)
    tally-more records' sets' d =
        let f : weigh set_records (rows_of (slots_from s n o)) ≡ weigh set_records (rows_of (slot_at s at ∷ [])) + weigh set_records (rows_of (slots_from s n (o + 1))) =
        ap (λ (l : List (Option Table)). weigh set_records (rows_of l)) (slots-step s n o h) ∙ rows-cons (slot_at s (offset_at s o)) (slots_from s n (o + 1)) ∙ rw a in
        let g : weigh row_count (slots_from s n o) ≡ row_count (slot_at s at) + weigh row_count (slots_from s n (o + 1)) =
        ap (weigh row_count) (slots-step s n o h) ∙ (unfold weigh in rw a) in
        let x = t.exact few in
        record {
          within = omega arith;
          most = omega (arith, d.most, x.0);
          exact = λ k. (omega (arith, d.exact k, x.0), omega (arith, d.sets-are, x.1));
          fewer = d.fewer;
        }

  pub tally-over : (n records sets o : ℕ) → Tallying s n records sets o → most_records < records → Tallied (store_at s) records sets
  tally-over n records sets o t l = record { most = omega (arith, t.most); exact = λ h. absurd (omega arith) }

  pub tally-done : (n records sets o : ℕ) → Tallying s n records sets o → n ≤ o → Tallied (store_at s) records sets
  tally-done n records sets o t l =
      let f : weigh set_records (rows_of (slots_from s n o)) ≡ 0 = ap (λ (l : List (Option Table)). weigh set_records (rows_of l)) (slots_end s n o l) ∙ (unfold rows_of weigh in refl) in
      let g : weigh row_count (slots_from s n o) ≡ 0 = ap (weigh row_count) (slots_end s n o l) ∙ (unfold weigh in refl) in
      record {
        most = omega (arith, t.most);
        exact = λ h. let x = t.exact h in (omega (arith, x.0), omega (arith, x.1));
      }
