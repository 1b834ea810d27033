-- A row of a store by its bytes, and the same row of what the store parses to. Assumes nothing.
use mathlib.Core.Path.{◌≡◌, refl, sym, ap, ◌∙◌}
use mathlib.Core.Bool.{true}
use mathlib.Core.List.{List}
use mathlib.Core.Logic.{⊎_elim}
use mathlib.Core.Option.{Option, none, some}
use Prim.Native.Nat.{ℕ, ◌≤◌, ◌<◌}
use native.Mathlib.Nat.{zero-add}
use native.Mathlib.Omega.{arith}
use lib.ListN.{get_or, get_or-eq_default}
use borrow.Author.Tests.{eq-eqb, ne_eqb, lt-ltb, le-ltb, lt-leb}
use Rattle.laws.specs.Bounded.{tabulate}
use Rattle.laws.proofs.Cases.{lt-or-ge, same_or_not, true-false}
use Rattle.laws.proofs.BoundedLaws.{length-tabulate, get_or-tabulate}
use Rattle.reader.specs.Store.{region_count, item_count, is_subtable_ok, subtable_reading, read_store, value_of}
use Rattle.stores.specs.Stores.{Table, Parsed, table_count, offset_at, rows_at, row_long, table_at, slot_at, store_at, parse, read_parsed}
use Rattle.stores.specs.Dropping.{row_count}
use Rattle.stores.specs.Coordinates.{is_row_there}
use Rattle.stores.proofs.PartLaws.{parts-long}
use Rattle.stores.proofs.WholeLaws.{Slot, Whole, parse-is}
use Rattle.stores.proofs.WholeLaws.Slot.{null, good}
use Rattle.stores.proofs.Reading.{read-parsed}
use Rattle.giving.specs.Lent.{row_value}

-- subtable o is there and not null, and has row i
pub record There (store : List ℕ) (o i : ℕ) : Type 0 where
  pub outer-in : o < table_count store
  pub not_null : offset_at store o ≡ 0 → ⊥
  pub inner-in : i < item_count store (offset_at store o)

rows-null : (store : List ℕ) (at : ℕ) → at ≡ 0 → row_count (slot_at store at) ≡ 0
unfolding slot_at row_count
rows-null store at e = rw (eq-eqb at 0 e)

rows-good : (store : List ℕ) (at : ℕ) → (at ≡ 0 → ⊥) → row_count (slot_at store at) ≡ item_count store at
unfolding slot_at table_at row_count
rows-good store at d = rw (ne_eqb at 0 d) (parts-long store (rows_at store at) (row_long store at) (item_count store at))

rows_none : row_count none ≡ 0
unfolding row_count
rows_none = refl

module _ (store : List ℕ) (p : Parsed) (e : parse store ≡ some p) where
  whole : Whole store
  whole = (parse-is store p e).0

  slots : List (Option Table)
  slots = tabulate 0 (table_count store) (λ o. slot_at store (offset_at store o))

  tables-are : p.tables ≡ tabulate 0 (table_count store) (λ o. slot_at store (offset_at store o))
  unfolding store_at
  tables-are = ap (λ (q : Parsed). q.tables) (sym (parse-is store p e).1)

  table-in : (o : ℕ) → o < table_count store → get_or p.tables o none ≡ slot_at store (offset_at store o)
  table-in o h =
      ap (λ (l : List (Option Table)). get_or l o none) tables-are
      ∙ get_or-tabulate 0 (table_count store) (λ o. slot_at store (offset_at store o)) none o h
      ∙ ap (λ (k : ℕ). slot_at store (offset_at store k)) (zero-add o)

  table-past : (o : ℕ) → table_count store ≤ o → get_or p.tables o none ≡ none
  table-past o h =
      ap (λ (l : List (Option Table)). get_or l o none) tables-are
      ∙ get_or-eq_default (tabulate 0 (table_count store) (λ o. slot_at store (offset_at store o))) none {n = o}
      (omega (arith, length-tabulate 0 (table_count store) (λ o. slot_at store (offset_at store o))))

  pub row-there : (o i : ℕ) → There store o i → is_row_there p o i ≡ true
  unfolding is_row_there
  row-there o i t =
      rw (table-in o t.outer-in, rows-good store (offset_at store o) t.not_null) (lt-ltb i (item_count store (offset_at store o)) t.inner-in)

  no-row : (o i n : ℕ) → row_count (get_or p.tables o none) ≡ n → n ≤ i → is_row_there p o i ≡ true → ⊥
  unfolding is_row_there
  no-row o i n c h t = true-false t (rw c (le-ltb i n h))

  pub there-row : (o i : ℕ) → is_row_there p o i ≡ true → There store o i
  there-row o i t = ⊎_elim
      (λ (h : o < table_count store). ⊎_elim
      (λ (z : offset_at store o ≡ 0). absurd (no-row o i 0 (ap row_count (table-in o h) ∙ rows-null store (offset_at store o) z) (omega arith) t))
      (λ d. ⊎_elim
      (λ (l : i < item_count store (offset_at store o)). record { outer-in = h; not_null = d; inner-in = l })
      (λ (l : item_count store (offset_at store o) ≤ i). absurd (no-row o i (item_count store (offset_at store o)) (ap row_count (table-in o h) ∙ rows-good store (offset_at store o) d) l t))
      (lt-or-ge i (item_count store (offset_at store o))))
      (same_or_not (offset_at store o) 0))
      (λ (h : table_count store ≤ o). absurd (no-row o i 0 (ap row_count (table-past o h) ∙ rows_none) (omega arith) t))
      (lt-or-ge o (table_count store))

  good-at : (o : ℕ) → o < table_count store → (offset_at store o ≡ 0 → ⊥) → is_subtable_ok store (offset_at store o) (region_count store) ≡ true
  good-at o h d = go (whole.slots o h)
    where
      go : Slot store (offset_at store o) → is_subtable_ok store (offset_at store o) (region_count store) ≡ true
      go (null z) = absurd (d z)
      go (good k g) = g

  pub value_there : (o i q : ℕ) → There store o i → q < region_count store → value_of (read_parsed p o i q) ≡ row_value store (offset_at store o) i q
  unfolding read_store subtable_reading
  value_there o i q t h =
      ap value_of (sym (read-parsed store p e o i q))
      ∙ (rw (
        whole.header,
        lt-leb (table_count store) o t.outer-in,
        ne_eqb (offset_at store o) 0 t.not_null,
        good-at o t.outer-in t.not_null,
        lt-leb (item_count store (offset_at store o)) i t.inner-in,
        lt-leb (region_count store) q h,
      ) refl)
