-- The columns that the panel's reader takes of a subtable (RULES R72). Assumes nothing.
use Rattle.std.specs.Prelude.{Bool, false, ◌||◌, List, [], ◌∷◌, ℕ, ltb, length}
use Rattle.rows.specs.Columns.{columns_of}
use Rattle.store.specs.Placing.{Final}
use Rattle.panel.specs.declared.Profile.{Profile}
use Rattle.panel.specs.declared.Profile.TheVariants.{Plain, Panel}

abbrev pub most_columns : ℕ
most_columns = 32

-- a column for each region in use
unfoldable pub is_some_wide : List Final → Bool
is_some_wide [] = false
is_some_wide (g ∷ gs) = ltb most_columns (length (columns_of g.shape)) || is_some_wide gs

unfoldable pub is_too_wide : Profile → List Final → Bool
is_too_wide Plain gs = false
is_too_wide Panel gs = is_some_wide gs
