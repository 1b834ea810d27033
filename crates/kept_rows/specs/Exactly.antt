-- Each refusal of keeping exactly when, in the order of the table, and done exactly else (RULES K3). Assumes nothing.
use Rattle.std.specs.Prelude.{◌≡◌, true, List, ◌↔◌, ℕ, ◌/◌, ◌%◌, ◌≤◌, ◌<◌, length, get_or}
use Rattle.reader.specs.Store.{bad_store, no_row}
use Rattle.stores.specs.Stores.{Parsed, store_at, is_whole_ok}
use Rattle.stores.specs.Coordinates.{is_row_there}
use Rattle.keeping.specs.Answers.{Refused}
use Rattle.keeping.specs.Keeping.{work_short, places_short, kept_short, most_bytes, keeping_work, kept_bytes, done_of, keep_of}

-- every entry names a row
pub record RowsThere (p : Parsed) (rows : List ℕ) : Type 0 where
  pub there : (j : ℕ) → j < length rows → is_row_there p (get_or rows j 0 / 65536) (get_or rows j 0 % 65536) ≡ true

-- the new store fits: in the output, and in four bytes of an offset
pub record Fits (p : Parsed) (rows : List ℕ) (room : ℕ) : Type 0 where
  pub in-room : length (kept_bytes p rows) ≤ room
  pub short : length (kept_bytes p rows) ≤ most_bytes

pub record Exactly (s rows : List ℕ) (work room places : ℕ) : Type 0 where
  pub work-short : (keep_of s rows work room places ≡ Refused work_short) ↔ (work < keeping_work (length s) (length rows))
  pub bad-store : (keep_of s rows work room places ≡ Refused bad_store) ↔ ((keeping_work (length s) (length rows) ≤ work) × (is_whole_ok s ≡ true → ⊥))
  pub no-row : (keep_of s rows work room places ≡ Refused no_row)
      ↔ ((keeping_work (length s) (length rows) ≤ work) × (is_whole_ok s ≡ true) × (RowsThere (store_at s) rows → ⊥))
  pub places-short : (keep_of s rows work room places ≡ Refused places_short)
      ↔ ((keeping_work (length s) (length rows) ≤ work) × (is_whole_ok s ≡ true) × RowsThere (store_at s) rows × (places < length rows))
  pub kept-short : (keep_of s rows work room places ≡ Refused kept_short)
      ↔ ((keeping_work (length s) (length rows) ≤ work) × (is_whole_ok s ≡ true) × RowsThere (store_at s) rows × (length rows ≤ places) × (Fits (store_at s) rows room → ⊥))
  pub done : (keep_of s rows work room places ≡ done_of (store_at s) rows)
      ↔ ((keeping_work (length s) (length rows) ≤ work) × (is_whole_ok s ≡ true) × RowsThere (store_at s) rows × (length rows ≤ places) × Fits (store_at s) rows room)
