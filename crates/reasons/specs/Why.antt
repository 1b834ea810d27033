-- Why two ids are where they are (RULES Z1 to Z4), by the final groups of a build in mode 0: their rows stand in one subtable; or their group is
-- one and is cut between them; or their groups were never joined. Assumes nothing.
use Rattle.std.specs.Prelude.{Bool, List, [], ◌∷◌, ℕ, suc, ◌/◌, eqb, ltb, length, get_or}
use Rattle.laws.specs.Pick.{pick}
use Rattle.shapes.specs.Group.{Group, group_cost, joined, max_items}
use Rattle.store.specs.Placing.{Final}
use Rattle.finding.specs.First.{first_at}
use Rattle.reasons.specs.declared.reason.Reason.{Reason}
use Rattle.reasons.specs.declared.reason.Reason.TheVariants.{Same, CutApart, NeverJoined}

-- a group has the row of an id
abbrev pub has_row : ℕ → Final → Bool
has_row x g = ltb (first_at x g.ids) (length g.ids)

-- the place, among the final groups, of the one that has it; as many as there are where none has
unfoldable pub home_in : ℕ → List Final → ℕ
home_in x [] = 0
home_in x (g ∷ gs) = pick (has_row x g) 0 (suc (home_in x gs))

abbrev pub final_no : List Final → ℕ → Final
final_no gs q = get_or gs q (record { shape = []; ids = [] })

-- the run of its row in that group: each but the last has 65,535 rows (F3)
abbrev pub run_in : ℕ → (ids : List ℕ) → ℕ
run_in x ids = first_at x ids / max_items

-- a final group as the rule counts it: its shape, and how many sets
abbrev pub counted : Final → Group
counted g = record { shape = g.shape; sets = length g.ids }

-- Z2, Z3: of two ids of one group
unfoldable pub reason_in_group : (ids : List ℕ) → ℕ → ℕ → Reason
reason_in_group ids a b = pick (eqb (run_in a ids) (run_in b ids)) Same CutApart

-- Z4: of two groups, what each costs (W6), and what they would as one (W7)
unfoldable pub apart_of : Final → Final → Reason
apart_of g h = NeverJoined (group_cost (counted g)) (group_cost (counted h)) (group_cost (joined (counted g) (counted h)))

unfoldable pub why_of : List Final → ℕ → ℕ → Reason
why_of gs a b =
    pick (eqb (home_in a gs) (home_in b gs))
    (reason_in_group (final_no gs (home_in a gs)).ids a b)
    (apart_of (final_no gs (home_in a gs)) (final_no gs (home_in b gs)))
