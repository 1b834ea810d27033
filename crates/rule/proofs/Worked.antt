-- P8, P9, P10 and P12 of docs/RULES.md: what the rule merges there, computed. The one file of this crate that looks
-- into `shapes`.
use mathlib.Core.Path.{◌≡◌, refl}
use mathlib.Core.List.{List, [], ◌∷◌, map}
use Prim.Native.Nat.{ℕ}
use Rattle.laws.specs.Order.{compared, then_by, is_most}
use Rattle.laws.specs.Bag.{weigh}
use Rattle.shapes.specs.Shape.{cost_of_row, columns, overhead, join}
use Rattle.shapes.specs.Group.{Group, group_cost, joined, gain}
use Rattle.rule.specs.Model.{Entry, keep_out, outs, pair_with, keep_pair, pairs, better, lead, best, worth, if_worth, choice, entry, merge, follow, step, run, number, start, merged, total}

-- the log, the pairs weighed, the size before and after
pub record Told : Type 0 where
  pub log : List Entry
  pub weighed : ℕ
  pub before : ℕ
  pub after : ℕ

abbrev pub of : List ℕ → ℕ → Group
of s n = record { shape = s; sets = n }

abbrev pub logged : ℕ → ℕ → ℕ → Entry
logged a b g = record { first = a; second = b; gain = g }

unfoldable pub told : List Group → Told
unfolding merged run step follow choice best pairs outs lead better compared then_by is_most worth if_worth gain joined group_cost overhead columns cost_of_row join start number merge entry keep_out keep_pair pair_with total weigh
told xs = record { log = (merged xs).log; weighed = (merged xs).weighed; before = total (start xs).living; after = total (merged xs).living }

pub worked : map told (
    -- P8: {R0:1}, {R1:1}
    (of (1 ∷ 0 ∷ []) 1 ∷ of (0 ∷ 1 ∷ []) 1 ∷ [])
    -- P9, P10: five and five sets, five and four
    ∷ (of (1 ∷ 0 ∷ []) 5 ∷ of (0 ∷ 1 ∷ []) 5 ∷ [])
    ∷ (of (1 ∷ 0 ∷ []) 5 ∷ of (0 ∷ 1 ∷ []) 4 ∷ [])
    -- P12: the empty set and {R0:10}
    ∷ (of (0 ∷ []) 1 ∷ of (1 ∷ []) 1 ∷ [])
    -- ties: all three pairs gain 8, and 0, 1 is joined
    ∷ (of (1 ∷ 0 ∷ 0 ∷ []) 1 ∷ of (0 ∷ 1 ∷ 0 ∷ []) 1 ∷ of (0 ∷ 0 ∷ 1 ∷ []) 1 ∷ [])
    -- none, and one
    ∷ []
    ∷ (of (1 ∷ []) 7 ∷ [])
    ∷ []
    )
    ≡ record { log = logged 0 1 8 ∷ []; weighed = 1; before = 26; after = 18 }
    ∷ record { log = []; weighed = 1; before = 34; after = 34 }
    ∷ record { log = logged 0 1 1 ∷ []; weighed = 1; before = 33; after = 32 }
    ∷ record { log = logged 0 1 9 ∷ []; weighed = 1; before = 23; after = 14 }
    ∷ record { log = logged 0 1 8 ∷ logged 2 3 6 ∷ []; weighed = 4; before = 39; after = 25 }
    ∷ record { log = []; weighed = 0; before = 0; after = 0 }
    ∷ record { log = []; weighed = 0; before = 19; after = 19 }
    ∷ []
unfolding told
worked = refl
