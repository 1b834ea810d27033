-- What a done call says: the store parses, every entry names a row, the answer's numbers are those of the store that is left, and its bytes fit.
use Rattle.std.specs.Prelude.{◌≡◌, true, List, ℕ, ◌≤◌, length}
use Rattle.std.proofs.Math.Option.{some}
use Rattle.laws.specs.Bag.{weigh}
use Rattle.stores.specs.Stores.{Parsed, parse}
use Rattle.stores.specs.Dropping.{row_count}
use Rattle.keeping.specs.Keeping.{keeping_work, most_bytes, all_there, kept_store, kept_bytes}

pub record DoneSays (s rows : List ℕ) (work room places b t r k : ℕ) : Type 0 where
  pub store : Parsed
  pub parsed : parse s ≡ some store
  pub there : all_there store rows ≡ true
  pub work-enough : keeping_work (length s) (length rows) ≤ work
  pub places-enough : length rows ≤ places
  pub room-enough : b ≤ room
  pub short : b ≤ most_bytes
  pub bytes-are : b ≡ length (kept_bytes store rows)
  pub tables-are : t ≡ length (kept_store store rows).tables
  pub regions-are : r ≡ length (kept_store store rows).regions
  pub rows_are : k ≡ weigh row_count (kept_store store rows).tables
