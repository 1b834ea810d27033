-- The part that shows an id, as the numbers that a host gets.
use Rattle.std.specs.Prelude.{List, [], ◌∷◌, ◌≡◌, ℕ, ◌+◌, ◌≤◌, ◌<◌, length}
use Rattle.said.specs.Records.{record_at, record_start}
use Rattle.said.specs.Refusals.{not_zero, byte_of}
use Rattle.showing.specs.Answers.{Shown}
use Rattle.showing.specs.Answers.{Refused, InJob, InStore}
use Rattle.reporting.specs.Answers.{refused_words}

-- the refusal number, 0 where a part was found
unfoldable pub shown_number : Shown → ℕ
shown_number (Refused n at) = n
shown_number (InJob at long) = 0
shown_number (InStore at long) = 0

-- the report: 0 number, 1 place, 2 where the part starts in the one that was asked for, 3 how long it is, then zeros. After a refusal all but 0, 1
-- and 12 is 0
unfoldable pub span_words : (at long : ℕ) → List ℕ
span_words at long = 0 ∷ 0 ∷ at ∷ long ∷ 0 ∷ 0 ∷ 0 ∷ 0 ∷ 0 ∷ 0 ∷ 0 ∷ 0 ∷ 0 ∷ 0 ∷ 0 ∷ 0 ∷ []

unfoldable pub shown_words : (job : List ℕ) → Shown → List ℕ
shown_words job (Refused n at) = refused_words n at (byte_of n (record_at job at))
shown_words job (InJob at long) = span_words at long
shown_words job (InStore at long) = span_words at long

-- refusal numbers are words
abbrev pub shown_few : Shown → Type 0
shown_few (Refused n at) = n < 4294967296
shown_few (InJob at long) = Unit
shown_few (InStore at long) = Unit

-- a refusal that names a byte is at a record of the job
abbrev pub shown_at : (job : List ℕ) → Shown → Type 0
shown_at job (Refused n at) = n ≡ not_zero → record_start (at + 1) ≤ length job
shown_at job (InJob at long) = Unit
shown_at job (InStore at long) = Unit
