-- What was judged of a store, as the numbers that a host gets.
use Rattle.std.specs.Prelude.{List, [], ◌∷◌, ◌≡◌, ℕ, ◌+◌, ◌≤◌, ◌<◌, length}
use Rattle.said.specs.Records.{record_at, record_start}
use Rattle.said.specs.Refusals.{not_zero, byte_of}
use Rattle.judging.specs.Answers.{Judged}
use Rattle.judging.specs.Answers.{Refused, Right, WrongSet, WrongStore}
use Rattle.reporting.specs.Answers.{refused_words}

-- the refusal number, 0 where the store was judged
unfoldable pub judge_number : Judged → ℕ
judge_number (Refused n at) = n
judge_number Right = 0
judge_number (WrongSet k) = 0
judge_number WrongStore = 0

-- the report: 0 number, 1 place, 2 the verdict (1 yes, 2 no by a set, 3 no by the store itself), 3 the set (for 2), then zeros. After a refusal all
-- but 0, 1 and 12 is 0
unfoldable pub verdict_report : (verdict set : ℕ) → List ℕ
verdict_report v k = 0 ∷ 0 ∷ v ∷ k ∷ 0 ∷ 0 ∷ 0 ∷ 0 ∷ 0 ∷ 0 ∷ 0 ∷ 0 ∷ 0 ∷ 0 ∷ 0 ∷ 0 ∷ []

unfoldable pub judged_words : (job : List ℕ) → Judged → List ℕ
judged_words job (Refused n at) = refused_words n at (byte_of n (record_at job at))
judged_words job Right = verdict_report 1 0
judged_words job (WrongSet k) = verdict_report 2 k
judged_words job WrongStore = verdict_report 3 0

-- refusal numbers are words
abbrev pub judge_few : Judged → Type 0
judge_few (Refused n at) = n < 4294967296
judge_few Right = Unit
judge_few (WrongSet k) = Unit
judge_few WrongStore = Unit

-- a refusal that names a byte is at a record of the job
abbrev pub judge_within : (job : List ℕ) → Judged → Type 0
judge_within job (Refused n at) = n ≡ not_zero → record_start (at + 1) ≤ length job
judge_within job Right = Unit
judge_within job (WrongSet k) = Unit
judge_within job WrongStore = Unit
