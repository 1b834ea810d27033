-- What is made of a job's sets: ids, final groups, the log, the counts (RULES S4 to S6, M1, M9, F1, F2, F5, F6, A2).
use Rattle.std.specs.Prelude.{Bool, true, false, ◌&&◌, ◌||◌, List, [], ◌∷◌, map, ℕ, suc, eqb, length, get_or}
use Rattle.laws.specs.Pick.{pick}
use Rattle.laws.specs.Order.{is_most}
use Rattle.laws.specs.Bounded.{up_to, tabulate}
use Rattle.laws.specs.Sorting.{sorted, keep}
use Rattle.shapes.specs.Shape.{Shape}
use Rattle.shapes.specs.Group.{Group, group_cost}
use Rattle.shapes.specs.Order as shapes
use Rattle.sets.specs.Set.{Set}
use Rattle.sets.specs.Order as sets
use Rattle.sets.specs.Ids.{shared_ids, distinct, own_ids}
use Rattle.groups.specs.Groups.{shape_of, groups_of}
use Rattle.groups.specs.Cover.{cover_of}
use Rattle.rule.specs.Model.{Living, Entry, start, merged, total}
use Rattle.store.specs.Placing.{Final}

pub record Packed : Type 0 where
  -- the id of each set, and the set of each id
  pub ids : List ℕ
  pub sets : List Set
  -- the final groups in their order, each with its ids in the order of rows
  pub finals : List Final
  -- N; of each starting group the place of its final group; the log, an entry a merge; pairs weighed; the modelled size
  -- before and after merging
  pub groups : ℕ
  pub origins : List ℕ
  pub log : List Entry
  pub weighed : ℕ
  pub before : ℕ
  pub after : ℕ

-- ---- mode 0

-- the order of sets (F1): set x comes no later than set y
unfoldable pub no_later : List Set → ℕ → ℕ → Bool
no_later all x y = is_most (sets.order (get_or all x []) (get_or all y []))

-- the ids of some sets in that order
unfoldable pub dense : List Set → List ℕ
dense all = sorted (no_later all) (up_to (length all))

unfoldable pub same_shape : Shape → Shape → Bool
same_shape [] [] = true
same_shape [] (w ∷ t) = false
same_shape (v ∷ s) [] = false
same_shape (v ∷ s) (w ∷ t) = eqb v w && same_shape s t

-- the number of the group of a shape
unfoldable pub number_of : Shape → List Group → ℕ
number_of s [] = 0
number_of s (g ∷ groups) = pick (same_shape s g.shape) 0 (suc (number_of s groups))

unfoldable pub is_among : ℕ → List ℕ → Bool
is_among i [] = false
is_among i (j ∷ l) = eqb i j || is_among i l

-- a set goes where the group of its shape went: into a living group that has that number among its origins
unfoldable pub belongs : ℕ → List Group → Living → Set → Bool
belongs regions groups g s = is_among (number_of (shape_of regions s) groups) g.origins

-- a living group with the ids of its sets in the order of their values (F1)
unfoldable pub final_of : ℕ → List Group → List Set → Living → Final
final_of regions groups all g = record { shape = g.group.shape; ids = keep (λ x. belongs regions groups g (get_or all x [])) (dense all) }

-- the order of groups (F2): group g comes no later than group h
unfoldable pub is_ahead : Living → Living → Bool
is_ahead g h = is_most (shapes.order g.group.shape h.group.shape)

unfoldable pub finals_of : ℕ → List Group → List Set → List Final
finals_of regions groups all = map (final_of regions groups all) (sorted is_ahead (merged groups).living)

-- the place, among some groups, of the one that starting group i went into
unfoldable pub home_of : ℕ → List Living → ℕ
home_of i [] = 0
home_of i (g ∷ l) = pick (is_among i g.origins) 0 (suc (home_of i l))

-- where each starting group went, by the final order (F6)
unfoldable pub origins_of : List Group → List ℕ
origins_of groups = tabulate 0 (length groups) (λ i. home_of i (sorted is_ahead (merged groups).living))

-- mode 0: equal sets share an id (S4), groups by shape (M1), joined while a pair gains (M3)
unfoldable pub shared : ℕ → List Set → Packed
shared regions all = record {
  ids = shared_ids all;
  sets = distinct all;
  finals = finals_of regions (groups_of regions all) (distinct all);
  groups = length (groups_of regions all);
  origins = origins_of (groups_of regions all);
  log = (merged (groups_of regions all)).log;
  weighed = (merged (groups_of regions all)).weighed;
  before = total (start (groups_of regions all)).living;
  after = total (merged (groups_of regions all)).living;
}

-- ---- mode 1

-- what both sizes are in mode 1 (A2)
unfoldable pub one_cost : ℕ → List Set → ℕ
one_cost regions all = pick (eqb (length all) 0) 0 (group_cost (record { shape = cover_of regions all; sets = length all }))

-- mode 1: an id for each set (S5), one group with its rows as the sets come (F5), nothing merged (A2)
unfoldable pub own : ℕ → List Set → Packed
own regions all = record {
  ids = own_ids all;
  sets = all;
  finals = record { shape = cover_of regions all; ids = up_to (length all) } ∷ [];
  groups = 0;
  origins = [];
  log = [];
  weighed = 0;
  before = one_cost regions all;
  after = one_cost regions all;
}
