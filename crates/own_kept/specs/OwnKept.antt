-- What a build wrote, kept with a list that has every row (#112): the same bytes, and each row in its place. Assumes nothing.
use Rattle.std.specs.Prelude.{◌≡◌, true, List, ℕ, ◌+◌, ◌*◌, ◌≤◌, ◌<◌, length, get_or, take}
use Rattle.std.proofs.Math.Option.{some}
use Rattle.stores.specs.Stores.{Parsed, parse}
use Rattle.stores.specs.Coordinates.{is_row_there}

-- mode 0, or a job of at least one set: without a set mode 1 writes a null subtable (F5), which is not kept
abbrev pub NoNull : (mode sets : ℕ) → Type 0
NoNull mode sets = (mode ≡ 0 → ⊥) → 1 ≤ sets

-- the list has every row of a store
pub record EveryRow (store rows : List ℕ) : Type 0 where
  pub has-row : (p : Parsed) → parse store ≡ some p → (o i : ℕ) → is_row_there p o i ≡ true → (j : ℕ) × (j < length rows) × (get_or rows j 0 ≡ o * 65536 + i)

-- what is left in output and places
pub record KeptWhole (store rows out places : List ℕ) : Type 0 where
  pub bytes_same : take (length store) out ≡ store
  pub places_same : (j : ℕ) → j < length rows → get_or places j 0 ≡ get_or rows j 0
