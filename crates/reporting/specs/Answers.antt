-- The answer of a build as the numbers that a host gets.
use Rattle.std.specs.Prelude.{List, [], ◌∷◌, ◌≡◌, ℕ, ◌+◌, ◌≤◌, set, length}
use Rattle.said.specs.Records.{record_at, record_start}
use Rattle.said.specs.Refusals.{not_zero, wide_subtable, byte_of}
use Rattle.refusals.specs.declared.Refused as refusals
use Rattle.refusals.specs.Refusals.{number}
use Rattle.finishing.specs.declared.answers.Report.{Report}
use Rattle.finishing.specs.Answers.{Built}
use Rattle.finishing.specs.Answers as built

-- of a build: the refusal number, 0 for done
unfoldable pub number_of : Built → ℕ
number_of (built.Refused n at) = n
number_of (built.Done d) = 0

-- the byte within its record that a refusal names; 0 where none is named
unfoldable pub byte_told : (job : List ℕ) → Built → ℕ
byte_told job (built.Refused n at) = byte_of n (record_at job at)
byte_told job (built.Done d) = 0

-- the report: 0 number, 1 place, 2 store bytes, 3 subtables, 4 regions kept, 5 distinct ids, 6 N, 7 merges, 8 pairs weighed, 9 size before,
-- 10 size after, 11 forecast, 12 byte, then zeros. After a refusal every count is 0
unfoldable pub refused_words : (number at byte : ℕ) → List ℕ
refused_words n at byte = n ∷ at ∷ 0 ∷ 0 ∷ 0 ∷ 0 ∷ 0 ∷ 0 ∷ 0 ∷ 0 ∷ 0 ∷ 0 ∷ byte ∷ 0 ∷ 0 ∷ 0 ∷ []

unfoldable pub done_words : Report → List ℕ
done_words d =
    0
    ∷ 0
    ∷ d.bytes
    ∷ d.subtables
    ∷ d.regions
    ∷ d.ids
    ∷ d.groups
    ∷ d.merges
    ∷ d.weighed
    ∷ d.before
    ∷ d.after
    ∷ d.forecast
    ∷ 0
    ∷ 0
    ∷ 0
    ∷ 0
    ∷ []

unfoldable pub report_words : (job : List ℕ) → Built → List ℕ
report_words job (built.Refused n at) = refused_words n at (byte_told job (built.Refused n at))
report_words job (built.Done d) = done_words d

-- words put over those from k on: all sixteen of a report
unfoldable pub filled : ℕ → List ℕ → List ℕ → List ℕ
filled k [] old = old
filled k (x ∷ l) old = filled (k + 1) l (set old k x)

-- ---- of a refusal as the code has it

abbrev pub words_of : (job : List ℕ) → refusals.Refused → List ℕ
words_of job x = refused_words (number x.refusal) x.place (byte_of (number x.refusal) (record_at job x.place))

-- one that names a byte is at a record of the job
abbrev pub AtRecord : (job : List ℕ) → refusals.Refused → Type 0
AtRecord job x = number x.refusal ≡ not_zero → record_start (x.place + 1) ≤ length job

-- ---- of a build

-- refusal numbers are small
abbrev pub number_few : Built → Type 0
number_few (built.Refused n at) = n ≤ wide_subtable
number_few (built.Done d) = Unit

-- a refusal that names a byte is at a record of the job
abbrev pub byte_within : (job : List ℕ) → Built → Type 0
byte_within job (built.Refused n at) = n ≡ not_zero → record_start (at + 1) ≤ length job
byte_within job (built.Done d) = Unit
