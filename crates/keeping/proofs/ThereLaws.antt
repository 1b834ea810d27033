-- Whether a word names a row, by the store's bytes. Assumes nothing.
use mathlib.Core.Path.{◌≡◌, refl, sym, ap, ◌∙◌}
use mathlib.Core.Bool.{true, false}
use mathlib.Core.List.{List, [], ◌∷◌}
use mathlib.Core.Logic.{⊎_elim}
use mathlib.Core.Option.{none, some}
use Prim.Native.Nat.{ℕ, zero, suc, ◌+◌, ◌/◌, ◌%◌, ◌≤◌, ◌<◌}
use native.Mathlib.Nat.{zero-add}
use native.Mathlib.Omega.{arith}
use lib.Dec.{ltb}
use lib.ListN.{length, get_or, get_or-eq_default}
use borrow.Author.Tests.{ltb-true, le-ltb, eq-eqb, ne_eqb}
use Rattle.laws.specs.Bounded.{tabulate}
use Rattle.laws.proofs.Cases.{lt-or-ge, and-true}
use Rattle.laws.proofs.BoundedLaws.{length-tabulate, get_or-tabulate}
use Rattle.reader.specs.Store.{item_count, region_count, is_subtable_ok}
use Rattle.reader.proofs.StoreLaws.{subtable-fits}
use Rattle.stores.specs.Stores.{Parsed, table_count, offset_at, rows_at, row_long, table_at, slot_at, store_at}
use Rattle.stores.specs.Dropping.{row_count}
use Rattle.stores.specs.Coordinates.{is_row_there}
use Rattle.stores.proofs.PartLaws.{parts-long}
use Rattle.stores.proofs.WholeLaws.{Slot, Whole}
use Rattle.stores.proofs.WholeLaws.Slot.{null, good}
use Rattle.keeping.specs.Keeping.{all_there}

-- row i of subtable o is there
pub record RowIs (s : List ℕ) (o i : ℕ) : Type 0 where
  pub outer-in : o < table_count s
  pub slot : get_or (store_at s).tables o none ≡ some (table_at s (offset_at s o))
  pub good-table : is_subtable_ok s (offset_at s o) (region_count s) ≡ true
  pub row : i < item_count s (offset_at s o)

-- the slot of a subtable
pub slot-of : (s : List ℕ) (o : ℕ) → o < table_count s → get_or (store_at s).tables o none ≡ slot_at s (offset_at s o)
unfolding store_at
slot-of s o h = get_or-tabulate 0 (table_count s) (λ o. slot_at s (offset_at s o)) none o h ∙ rw (zero-add o)

slot-none : (s : List ℕ) (o : ℕ) → table_count s ≤ o → get_or (store_at s).tables o none ≡ none
unfolding store_at
slot-none s o h = get_or-eq_default (tabulate 0 (table_count s) (λ o. slot_at s (offset_at s o))) none {n = o} (omega (arith, length-tabulate 0 (table_count s) (λ o. slot_at s (offset_at s o))))

slot-null : (s : List ℕ) (at : ℕ) → at ≡ 0 → slot_at s at ≡ none
unfolding slot_at
slot-null s at e = rw (eq-eqb at 0 e)

slot-some : (s : List ℕ) (at : ℕ) → (at ≡ 0 → ⊥) → slot_at s at ≡ some (table_at s at)
unfolding slot_at
slot-some s at d = rw (ne_eqb at 0 d)

rows-count : (s : List ℕ) (at : ℕ) → row_count (some (table_at s at)) ≡ item_count s at
unfolding row_count table_at
rows-count s at = parts-long s (rows_at s at) (row_long s at) (item_count s at)

-- what the test is, case by case
pub there-far : (s : List ℕ) (o i : ℕ) → table_count s ≤ o → false ≡ is_row_there (store_at s) o i
unfolding is_row_there row_count
there-far s o i h = rw (slot-none s o h) (sym (le-ltb i 0 (omega arith)))

pub there-null : (s : List ℕ) (o i at : ℕ) → o < table_count s → at ≡ offset_at s o → at ≡ 0 → false ≡ is_row_there (store_at s) o i
unfolding is_row_there row_count
there-null s o i at h e z = rw (slot-of s o h, slot-null s (offset_at s o) (sym e ∙ z)) (sym (le-ltb i 0 (omega arith)))

pub there-some : (s : List ℕ) (o i at m : ℕ) → o < table_count s → at ≡ offset_at s o → (at ≡ 0 → ⊥) → m ≡ item_count s at → ltb i m ≡ is_row_there (store_at s) o i
unfolding is_row_there
there-some s o i at m h e d c =
    let f : offset_at s o ≡ 0 → ⊥ = (λ z. d (e ∙ z)) in
    rw (slot-of s o h, slot-some s (offset_at s o) f, rows-count s (offset_at s o)) (ap (λ (x : ℕ). ltb i x) (c ∙ ap (item_count s) e))

pub row_is : (s : List ℕ) → Whole s → (o i : ℕ) → is_row_there (store_at s) o i ≡ true → RowIs s o i
row_is s w o i h = ⊎_elim (λ (l : o < table_count s). go l (w.slots o l)) (λ (l : table_count s ≤ o). absurd (clash (there-far s o i l ∙ h))) (lt-or-ge o (table_count s))
  where
    clash : false ≡ true → ⊥
    clash e = let z : ◌≡◌ {A = ℕ} 0 1 = cc in omega arith

    go : o < table_count s → Slot s (offset_at s o) → RowIs s o i
    go l (null e) = absurd (clash (there-null s o i (offset_at s o) l refl e ∙ h))
    go l (good d g) = record {
      outer-in = l;
      slot = slot-of s o l ∙ slot-some s (offset_at s o) d;
      good-table = g;
      row = ltb-true i (item_count s (offset_at s o)) (there-some s o i (offset_at s o) (item_count s (offset_at s o)) l refl d refl ∙ h);
    }

-- an entry of a list that is there
pub there-at : (p : Parsed) (rows : List ℕ) → all_there p rows ≡ true → (j : ℕ) → j < length rows → is_row_there p (get_or rows j 0 / 65536) (get_or rows j 0 % 65536) ≡ true
unfolding all_there
there-at p [] h j l = absurd (omega arith)
there-at p (x ∷ rows) h zero l = (and-true (is_row_there p (x / 65536) (x % 65536)) (all_there p rows) h).0
there-at p (x ∷ rows) h (suc j) l = there-at p rows (and-true (is_row_there p (x / 65536) (x % 65536)) (all_there p rows) h).1 j (omega arith)

-- a subtable's first two bytes lie in the store
pub head_in : (s : List ℕ) (o at : ℕ) → Whole s → o < table_count s → at ≡ offset_at s o → (at ≡ 0 → ⊥) → at + 2 ≤ length s
head_in s o at w h e d = go (w.slots o h)
  where
    go : Slot s (offset_at s o) → at + 2 ≤ length s
    go (null z) = absurd (d (e ∙ z))
    go (good y g) = omega (arith, e, (subtable-fits s (offset_at s o) (region_count s) g).head)

-- the same of a word that was widened
pub far-word : (s : List ℕ) (w x : ℕ) → w ≡ x → table_count s ≤ w / 65536 → false ≡ is_row_there (store_at s) (x / 65536) (x % 65536)
far-word s w x e h = rw e at (there-far s (w / 65536) (w % 65536) h)

pub null_word : (s : List ℕ) (w x at : ℕ) → w ≡ x → w / 65536 < table_count s → at ≡ offset_at s (w / 65536) → at ≡ 0 → false ≡ is_row_there (store_at s) (x / 65536) (x % 65536)
null_word s w x at e h a z = ap (λ (y : ℕ). false) e ∙ there-null s (w / 65536) (w % 65536) at h a z ∙ ap (λ (y : ℕ). is_row_there (store_at s) (y / 65536) (y % 65536)) e

pub some_word : (s : List ℕ) (w x at m : ℕ) → w ≡ x → w / 65536 < table_count s → at ≡ offset_at s (w / 65536) → (at ≡ 0 → ⊥) → m ≡ item_count s at
    → ltb (w % 65536) m ≡ is_row_there (store_at s) (x / 65536) (x % 65536)
some_word s w x at m e h a d c = there-some s (w / 65536) (w % 65536) at m h a d c ∙ ap (λ (y : ℕ). is_row_there (store_at s) (y / 65536) (y % 65536)) e
