-- Merging (RULES M1 to M9), on lists: numbers, living groups, the best pair, the next unused number. It computes. What
-- a group costs, what two gain and what they become is `shapes`' own; nothing here looks into it. Assumes nothing.
use Rattle.std.specs.Prelude.{◌≡◌, List, [], ◌∷◌, ◌++◌, map, ℕ, zero, suc, ◌+◌, ◌≤◌, length}
use Rattle.std.proofs.Math.Option.{Option, none, some}
use Rattle.laws.specs.Pick.{pick}
use Rattle.laws.specs.Order.{compared, then_by, is_most}
use Rattle.laws.specs.Bag.{weigh}
use Rattle.shapes.specs.Group.{Group, group_cost, gain, joined}

-- A living group: its number, its shape and set count, and the numbers of the starting groups that went into it.
pub record Living : Type 0 where
  pub num : ℕ
  pub group : Group
  pub origins : List ℕ

abbrev pub gain_of : Living → Living → ℕ
gain_of a b = gain a.group b.group

-- what two become, under the number k
abbrev pub joined_as : ℕ → Living → Living → Living
joined_as k a b = record { num = k; group = joined a.group b.group; origins = a.origins ++ b.origins }

-- ---- the pairs of a list, and the best of them

-- Two groups of a list, the first standing before the second, and the list without them. (Numbers ascend, so the first has the smaller number.)
pub record Pair : Type 0 where
  pub first : Living
  pub second : Living
  pub rest : List Living

pub record Out : Type 0 where
  pub one : Living
  pub rest : List Living

unfoldable pub keep_out : Living → Out → Out
keep_out g o = record { one = o.one; rest = g ∷ o.rest }

-- every way to take one group out of a list
unfoldable pub outs : List Living → List Out
outs [] = []
outs (g ∷ l) = record { one = g; rest = l } ∷ map (keep_out g) (outs l)

unfoldable pub pair_with : Living → Out → Pair
pair_with g o = record { first = g; second = o.one; rest = o.rest }

unfoldable pub keep_pair : Living → Pair → Pair
keep_pair g c = record { first = c.first; second = c.second; rest = g ∷ c.rest }

-- every way to take two
unfoldable pub pairs : List Living → List Pair
pairs [] = []
pairs (g ∷ l) = map (pair_with g) (outs l) ++ map (keep_pair g) (pairs l)

-- M3: the pair a, b is not behind the pair g, h.
abbrev pub Ahead : Living → Living → Living → Living → Type 0
Ahead a b g h = (gain_of g h ≤ gain_of a b) × (gain_of g h ≡ gain_of a b → (a.num ≤ g.num) × (a.num ≡ g.num → b.num ≤ h.num))

-- the one of two that is ahead: the greater gain, then the smaller first number, then the smaller second
unfoldable pub better : Pair → Pair → Pair
better c d =
    pick (is_most
    (then_by (compared (gain_of d.first d.second) (gain_of c.first c.second))
    (then_by (compared c.first.num d.first.num)
    (compared c.second.num d.second.num)))) c d

unfoldable pub lead : Pair → Option Pair → Option Pair
lead c none = some c
lead c (some d) = some (better c d)

unfoldable pub best : List Pair → Option Pair
best [] = none
best (c ∷ cs) = lead c (best cs)

-- M3: a gain above 0 is worth a merge
unfoldable pub worth : Pair → ℕ → Option Pair
worth c zero = none
worth c (suc n) = some c

unfoldable pub if_worth : Option Pair → Option Pair
if_worth none = none
if_worth (some c) = worth c (gain_of c.first c.second)

-- the pair that is joined next
unfoldable pub choice : List Living → Option Pair
choice l = if_worth (best (pairs l))

-- ---- the run

-- what the log says of a merge (M5)
pub record Entry : Type 0 where
  pub first : ℕ
  pub second : ℕ
  pub gain : ℕ

-- The living groups in ascending number, the next unused number, the log, and how many pairs were weighed.
pub record State : Type 0 where
  pub living : List Living
  pub next : ℕ
  pub log : List Entry
  pub weighed : ℕ

unfoldable pub entry : Pair → Entry
entry c = record { first = c.first.num; second = c.second.num; gain = gain_of c.first c.second }

-- M4: both die, and the joined group, under the next unused number, is weighed with each living group. The source's
-- fold (M8) is no part of this: it never happens (`no-fold` of proofs/Theorems.antt).
unfoldable pub merge : State → Pair → State
merge s c =
    record {
      living = c.rest ++ (joined_as s.next c.first c.second ∷ []);
      next = suc s.next;
      log = s.log ++ (entry c ∷ []);
      weighed = s.weighed + length c.rest;
    }

unfoldable pub follow : State → Option Pair → State
follow s none = s
follow s (some c) = merge s c

-- one merge, or nothing where no living pair has gain above 0
unfoldable pub step : State → State
step s = follow s (choice s.living)

unfoldable pub run : ℕ → State → State
run zero s = s
run (suc k) s = run k (step s)

-- M1: numbers from 0 on (here from k)
unfoldable pub number : ℕ → List Group → List Living
number k [] = []
number k (x ∷ xs) = record { num = k; group = x; origins = k ∷ [] } ∷ number (suc k) xs

-- M2: every pair is weighed
unfoldable pub start : List Group → State
start xs = record { living = number 0 xs; next = length xs; log = []; weighed = length (pairs (number 0 xs)) }

-- As many steps as there are groups: enough, by `enough` of proofs/Theorems.antt.
unfoldable pub merged : List Group → State
merged xs = run (length xs) (start xs)

-- the modelled size: what the groups cost together
unfoldable pub total : List Living → ℕ
total = weigh (λ g. group_cost g.group)
