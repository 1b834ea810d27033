-- What is refused of a question to a build that is done, behind the build's own refusals (RULES R62, R63). Assumes nothing.
use Rattle.std.specs.Prelude.{List, [], ◌∷◌, ℕ, ltb, take}
use Rattle.said.specs.Refusals.{first_failed}
use Rattle.stores.specs.Coordinates.{are_same_bytes}

abbrev pub no_id : ℕ
no_id = 62

abbrev pub other_store : ℕ
other_store = 63

-- of a build of so many ids and bytes, by its output: both ids are there, and the store is what the build writes
unfoldable pub asked_refusal : (ids bytes first second : ℕ) (store out : List ℕ) → ℕ
asked_refusal ids bytes a b store out =
    first_failed
    ((ltb a ids, no_id)
    ∷ (ltb b ids, no_id)
    ∷ (are_same_bytes store (take bytes out), other_store)
    ∷ [])
