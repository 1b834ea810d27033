-- Lists put one after the other. Assumes nothing.
use Rattle.std.specs.Prelude.{List, [], ◌∷◌, ◌++◌}

-- all of them in one
unfoldable pub join_all : {A : Type 0} → List (List A) → List A
join_all [] = []
join_all (l ∷ ls) = l ++ join_all ls
