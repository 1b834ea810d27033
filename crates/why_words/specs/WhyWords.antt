-- Why two ids are where they are, as the numbers that a host gets.
use Rattle.std.specs.Prelude.{◌&&◌, List, [], ◌∷◌, ◌≡◌, ℕ, ◌+◌, ◌-◌, ◌≤◌, ◌<◌, ltb, length}
use Rattle.laws.specs.Pick.{pick}
use Rattle.said.specs.Records.{record_at, record_start}
use Rattle.said.specs.Refusals.{not_zero, byte_of}
use Rattle.why_words.specs.Answers.{Why}
use Rattle.why_words.specs.Answers.{Refused, Same, CutApart, NeverJoined}
use Rattle.reporting.specs.Answers.{refused_words}

-- the refusal number, 0 where there is a reason
unfoldable pub why_number : Why → ℕ
why_number (Refused n at) = n
why_number Same = 0
why_number CutApart = 0
why_number (NeverJoined a b j) = 0

-- far above what a group can cost
abbrev pub cost_limit : ℕ
cost_limit = 0x4000_0000_0000_0000

-- what joining would gain (W8), as two's complement of 64 bits: what two groups cost apart, less what they would as one
unfoldable pub gain_as_word : (a b joined : ℕ) → ℕ
gain_as_word a b j = pick (ltb a cost_limit && ltb b cost_limit) (pick (ltb (a + b) j) (18446744073709551616 - (j - (a + b))) (a + b - j)) 0

-- the report: 0 number, 1 place, 2 the reason (1 same subtable, 2 cut apart, 3 never joined), 3 and 4 what the two groups cost, 5 what they would as
-- one, 6 the gain, then zeros. After a refusal all but 0, 1 and 12 is 0
unfoldable pub reason_words : (reason a b joined gain : ℕ) → List ℕ
reason_words r a b j g = 0 ∷ 0 ∷ r ∷ a ∷ b ∷ j ∷ g ∷ 0 ∷ 0 ∷ 0 ∷ 0 ∷ 0 ∷ 0 ∷ 0 ∷ 0 ∷ 0 ∷ []

unfoldable pub why_report : (job : List ℕ) → Why → List ℕ
why_report job (Refused n at) = refused_words n at (byte_of n (record_at job at))
why_report job Same = reason_words 1 0 0 0 0
why_report job CutApart = reason_words 2 0 0 0 0
why_report job (NeverJoined a b j) = reason_words 3 a b j (gain_as_word a b j)

-- refusal numbers are words
abbrev pub why_few : Why → Type 0
why_few (Refused n at) = n < 4294967296
why_few Same = Unit
why_few CutApart = Unit
why_few (NeverJoined a b j) = Unit

-- a refusal that names a byte is at a record of the job
abbrev pub why_at : (job : List ℕ) → Why → Type 0
why_at job (Refused n at) = n ≡ not_zero → record_start (at + 1) ≤ length job
why_at job Same = Unit
why_at job CutApart = Unit
why_at job (NeverJoined a b j) = Unit
