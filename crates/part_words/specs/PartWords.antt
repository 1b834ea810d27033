-- Where two sets part, as the numbers that a host gets.
use Rattle.std.specs.Prelude.{List, [], ◌∷◌, ◌≡◌, ℕ, ◌+◌, ◌≤◌, ◌<◌, length}
use Rattle.laws.specs.Signed.{twos, value}
use Rattle.said.specs.Records.{record_at, record_start}
use Rattle.said.specs.Refusals.{not_zero, byte_of}
use Rattle.parting.specs.Answers.{Parted}
use Rattle.parting.specs.Answers.{Refused, Equal, Smaller, Larger}
use Rattle.reporting.specs.Answers.{refused_words}

-- the refusal number, 0 where the sets were compared
unfoldable pub part_number : Parted → ℕ
part_number (Refused n at) = n
part_number Equal = 0
part_number (Smaller r p v u) = 0
part_number (Larger r p v u) = 0

-- the value of a word of work, as two's complement of 64 bits
unfoldable pub value_of_64_bits : ℕ → ℕ
value_of_64_bits w = twos 8 (value w)

-- the report: 0 number, 1 place, 2 how the first set stands to the second (0 equal, 1 smaller, 2 larger), 3 the region index, 4 the number
-- in the job of the region that first used it, 5 the first set's value there, 6 the second's, then zeros. After a refusal all but 0, 1 and 12 is 0
unfoldable pub standing_words : (standing index region left right : ℕ) → List ℕ
standing_words o r p x y = 0 ∷ 0 ∷ o ∷ r ∷ p ∷ x ∷ y ∷ 0 ∷ 0 ∷ 0 ∷ 0 ∷ 0 ∷ 0 ∷ 0 ∷ 0 ∷ 0 ∷ []

unfoldable pub part_report : (job : List ℕ) → Parted → List ℕ
part_report job (Refused n at) = refused_words n at (byte_of n (record_at job at))
part_report job Equal = standing_words 0 0 0 0 0
part_report job (Smaller r p v u) = standing_words 1 r p (value_of_64_bits v) (value_of_64_bits u)
part_report job (Larger r p v u) = standing_words 2 r p (value_of_64_bits v) (value_of_64_bits u)

-- refusal numbers are words
abbrev pub part_few : Parted → Type 0
part_few (Refused n at) = n < 4294967296
part_few Equal = Unit
part_few (Smaller r p v u) = Unit
part_few (Larger r p v u) = Unit

-- a refusal that names a byte is at a record of the job
abbrev pub part_within : (job : List ℕ) → Parted → Type 0
part_within job (Refused n at) = n ≡ not_zero → record_start (at + 1) ≤ length job
part_within job Equal = Unit
part_within job (Smaller r p v u) = Unit
part_within job (Larger r p v u) = Unit
