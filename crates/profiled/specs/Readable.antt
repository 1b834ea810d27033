-- What the instrument's reader knows of a store: no 32-bit rows, and few columns (RULES D7). Assumes nothing.
use Rattle.std.specs.Prelude.{◌≡◌, List, ℕ, ◌≤◌, ◌<◌, length}
use Rattle.std.proofs.Math.Option.{Option, none, some}
use Rattle.laws.specs.Every.{All}
use Rattle.stores.specs.Stores.{Table, Parsed, parse}
use Rattle.narrow.specs.Columns.{most_columns}

-- the word count has the bit 0x8000 where rows have 32-bit columns
pub record ReadableTable (t : Table) : Type 0 where
  pub no-long-rows : t.word < 0x8000
  pub few-columns : length t.columns ≤ most_columns

abbrev pub ReadableSlot : Option Table → Type 0
ReadableSlot none = Unit
ReadableSlot (some t) = ReadableTable t

-- the bytes are a store, and each of its subtables is such
pub record Readable (bytes : List ℕ) : Type 0 where
  pub store : Parsed
  pub parsed : parse bytes ≡ some store
  pub tables : All ReadableSlot store.tables
