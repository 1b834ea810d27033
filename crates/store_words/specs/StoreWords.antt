-- What was made of a store, as the numbers that a host gets (RULES H8, H10). Assumes nothing.
use Rattle.std.specs.Prelude.{List, [], ◌∷◌, ℕ}
use Rattle.recoverer.specs.Answers.{Recovered}
use Rattle.recoverer.specs.Answers as recovered
use Rattle.keeping.specs.Answers.{Kept}
use Rattle.keeping.specs.Answers as kept
use Rattle.reporting.specs.Answers.{refused_words}

-- a report with four counts: 0 number, 1 place, 2 to 5 the counts, then zeros
unfoldable pub count_words : (bytes second third fourth : ℕ) → List ℕ
count_words b x y z = 0 ∷ 0 ∷ b ∷ x ∷ y ∷ z ∷ 0 ∷ 0 ∷ 0 ∷ 0 ∷ 0 ∷ 0 ∷ 0 ∷ 0 ∷ 0 ∷ 0 ∷ []

-- ---- a store read back into a job

-- the refusal number, 0 for done
unfoldable pub recover_number : Recovered → ℕ
recover_number (recovered.Refused n) = n
recover_number (recovered.Done b a r s) = 0

-- 2 job bytes, 3 axes, 4 regions, 5 sets
unfoldable pub recovered_words : Recovered → List ℕ
recovered_words (recovered.Refused n) = refused_words n 0 0
recovered_words (recovered.Done b a r s) = count_words b a r s

-- ---- a store with only the rows in use

unfoldable pub kept_number : Kept → ℕ
kept_number (kept.Refused n) = n
kept_number (kept.Done b t r k) = 0

-- 2 store bytes, 3 subtables, 4 regions kept, 5 rows kept
unfoldable pub kept_words : Kept → List ℕ
kept_words (kept.Refused n) = refused_words n 0 0
kept_words (kept.Done b t r k) = count_words b t r k
