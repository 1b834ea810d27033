-- Ids (RULES S4 to S6): in mode 0 equal sets share one, in mode 1 each set has its own.
use Rattle.std.specs.Prelude.{List, [], ◌∷◌, ◌++◌, ℕ, suc, length, ltb}
use Rattle.laws.specs.Pick.{pick}
use Rattle.laws.specs.Bounded.{up_to}
use Rattle.sets.specs.Set.{Set, same_set}

-- the place of the first set of a list that equals s, or the list's length where none does
unfoldable pub place : Set → List Set → ℕ
place s [] = 0
place s (t ∷ l) = pick (same_set s t) 0 (suc (place s l))

-- The known sets are the distinct ones so far; an id is a place among them. One more set is known already, or takes the next id.
unfoldable pub with_set : List Set → Set → List Set
with_set known s = pick (ltb (place s known) (length known)) known (known ++ (s ∷ []))

unfoldable pub ids_from : List Set → List Set → List ℕ
ids_from known [] = []
ids_from known (s ∷ l) = place s known ∷ ids_from (with_set known s) l

unfoldable pub distinct_from : List Set → List Set → List Set
distinct_from known [] = known
distinct_from known (s ∷ l) = distinct_from (with_set known s) l

-- mode 0: the ids of a list of sets, and the distinct sets in the order of their ids
abbrev pub shared_ids : List Set → List ℕ
shared_ids sets = ids_from [] sets

abbrev pub distinct : List Set → List Set
distinct sets = distinct_from [] sets

-- mode 1
abbrev pub own_ids : List Set → List ℕ
own_ids sets = up_to (length sets)
