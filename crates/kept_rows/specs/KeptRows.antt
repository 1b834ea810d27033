-- What a done call of keeping leaves (#112), of the bytes of both stores: each row of the list reads as it did, column by column and by coordinates, the new
-- store has no other row, and rows keep their order. Words are outer x 65,536 + inner. Assumes nothing.
use Rattle.std.specs.Prelude.{◌≡◌, true, List, [], ℕ, ◌+◌, ◌*◌, ◌/◌, ◌%◌, ◌<◌, length, get_or}
use Rattle.std.proofs.Math.Option.{none, some}
use Rattle.reader.specs.Store.{NoColumn, read_store}
use Rattle.stores.specs.Stores.{Table, Parsed, parse}
use Rattle.stores.specs.Coordinates.{read_at, is_row_there, Distinct}

-- column by column: row w of store p and row v of store q have one word count, the same bytes and as many columns, and each column's region has its coordinates
pub record SameColumns (p q : Parsed) (w v : ℕ) : Type 0 where
  pub old : Table
  pub new : Table
  pub old-is : get_or p.tables (w / 65536) none ≡ some old
  pub new_is : get_or q.tables (v / 65536) none ≡ some new
  pub old-there : w % 65536 < length old.rows
  pub new-there : v % 65536 < length new.rows
  pub word_same : new.word ≡ old.word
  pub columns-same : length new.columns ≡ length old.columns
  pub region-same : (j : ℕ) → j < length old.columns → get_or q.regions (get_or new.columns j 0) [] ≡ get_or p.regions (get_or old.columns j 0) []
  pub row_same : get_or new.rows (v % 65536) [] ≡ get_or old.rows (w % 65536) []

-- region r of the old list: it is listed anew and reads the same, or the row had no column for it
pub data RegionKept (s out : List ℕ) (p q : Parsed) (w v r : ℕ) : Type 0 where
  here : (m : ℕ) → m < length q.regions → get_or q.regions m [] ≡ get_or p.regions r []
      → read_store out (v / 65536) (v % 65536) m ≡ read_store s (w / 65536) (w % 65536) r → RegionKept s out p q w v r
  gone : read_store s (w / 65536) (w % 65536) r ≡ NoColumn → RegionKept s out p q w v r

pub record RowKept (s out : List ℕ) (p q : Parsed) (w v : ℕ) : Type 0 where
  pub columns : SameColumns p q w v
  pub by-region : (r : ℕ) → r < length p.regions → RegionKept s out p q w v r
  pub by-coordinates : Distinct p.regions → (c : List ℕ) → read_at q (v / 65536) (v % 65536) c ≡ read_at p (w / 65536) (w % 65536) c

-- of a store s, the list, and what a done call leaves in output and places
pub record KeptAll (s rows out places : List ℕ) : Type 0 where
  pub store : Parsed
  pub parsed : parse s ≡ some store
  pub new : Parsed
  pub new-parsed : parse out ≡ some new
  pub row_kept : (j : ℕ) → j < length rows → RowKept s out store new (get_or rows j 0) (get_or places j 0)
  pub only_kept : (o i : ℕ) → is_row_there new o i ≡ true → (j : ℕ) × (j < length rows) × (get_or places j 0 ≡ o * 65536 + i)
  pub in_order : (i j : ℕ) → i < length rows → j < length rows → get_or rows i 0 < get_or rows j 0 → get_or places i 0 < get_or places j 0
