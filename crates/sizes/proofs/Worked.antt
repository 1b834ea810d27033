-- P8 and P9 of docs/RULES.md, computed: the starting groups, the group of each id, the final groups with their ids, the
-- sizes; and the theorem, which has the size of what is written. Assumes nothing.
use mathlib.Core.Path.{◌≡◌, refl}
use mathlib.Core.List.{List, [], ◌∷◌, map}
use Prim.Native.Nat.{ℕ, ◌+◌}
use lib.ListN.{length}
use Rattle.laws.specs.Bag.{weigh}
use Rattle.laws.specs.Bounded.{tabulate, up_to}
use Rattle.laws.specs.Order.{compared, then_by, is_most}
use Rattle.laws.specs.Signed.{fits, is_zero, signed, twos, value, zero_word}
use Rattle.laws.specs.Sorting.{insert, sorted, keep}
use Rattle.shapes.specs.Width as width
use Rattle.shapes.specs.Shape.{Shape, cost_of_row, columns, overhead, join}
use Rattle.shapes.specs.Order as shapes
use Rattle.shapes.specs.Group.{Group, group_cost, joined, gain}
use Rattle.sets.specs.Set.{Set, word_of, same_set}
use Rattle.sets.specs.Order as sets
use Rattle.sets.specs.Ids.{place, with_set, distinct_from, distinct}
use Rattle.groups.specs.Groups.{shape_of, put_shape, with_shape, groups_from, groups_of}
use Rattle.rule.specs.Model as rule
use Rattle.store.specs.Placing.{Final}
use Rattle.encoder.specs.Packed.{no_later, dense, same_shape, number_of, is_among, belongs, final_of, is_ahead, finals_of, shared}
use Rattle.sizes.specs.Sizes.{cost_of, starting_of, Sizes}
use Rattle.sizes.proofs.Counted.{sizes}

-- a set of the value v from 0 on at region r alone
abbrev only : ℕ → ℕ → Set
only r v = (r, zero_word + v) ∷ []

abbrev group : Shape → ℕ → Group
group s n = record { shape = s; sets = n }

abbrev final : Shape → List ℕ → Final
final s l = record { shape = s; ids = l }

-- of the sets of a job with two regions: the starting groups, the number of each id's, the final groups, the sizes before and after merging, and what
-- the final groups cost by their own ids
pub record Worked : Type 0 where
  pub groups : List Group
  pub starts : List ℕ
  pub finals : List Final
  pub before : ℕ
  pub after : ℕ
  pub cost : ℕ

abbrev worked : List Set → Worked
worked l = record {
  groups = groups_of 2 l;
  starts = map (starting_of 2 l) (up_to (length (distinct l)));
  finals = (shared 2 l).finals;
  before = (shared 2 l).before;
  after = (shared 2 l).after;
  cost = weigh cost_of (shared 2 l).finals;
}

-- P8, and its first set once more: {R0:1}, {R1:1}, {R0:1}
abbrev p8 : List Set
p8 = only 0 1 ∷ only 1 1 ∷ only 0 1 ∷ []

-- P9: five sets on R0 and five on R1
abbrev p9 : List Set
p9 =
    only 0 1 ∷ only 0 2 ∷ only 0 3 ∷ only 0 4 ∷ only 0 5
    ∷ only 1 1 ∷ only 1 2 ∷ only 1 3 ∷ only 1 4 ∷ only 1 5 ∷ []

-- the two groups of P8 become one, id 1 before id 0; those of P9 stay
both : map worked (p8 ∷ p9 ∷ []) ≡
    record {
      groups = group (1 ∷ 0 ∷ []) 1 ∷ group (0 ∷ 1 ∷ []) 1 ∷ [];
      starts = 0 ∷ 1 ∷ [];
      finals = final (1 ∷ 1 ∷ []) (1 ∷ 0 ∷ []) ∷ [];
      before = 26;
      after = 18;
      cost = 18;
    }
    ∷ record {
      groups = group (1 ∷ 0 ∷ []) 5 ∷ group (0 ∷ 1 ∷ []) 5 ∷ [];
      starts = 0 ∷ 0 ∷ 0 ∷ 0 ∷ 0 ∷ 1 ∷ 1 ∷ 1 ∷ 1 ∷ 1 ∷ [];
      finals = final (1 ∷ 0 ∷ []) (0 ∷ 1 ∷ 2 ∷ 3 ∷ 4 ∷ []) ∷ final (0 ∷ 1 ∷ []) (5 ∷ 6 ∷ 7 ∷ 8 ∷ 9 ∷ []) ∷ [];
      before = 34;
      after = 34;
      cost = 34;
    }
    ∷ []
unfolding weigh tabulate compared then_by is_most fits is_zero signed twos value insert sorted keep width.width_of width.cost_of cost_of_row columns overhead join shapes.order_of_widths shapes.order group_cost joined gain word_of same_set sets.by_words sets.part_none sets.part_head sets.parting sets.order_of sets.order place with_set distinct_from shape_of put_shape with_shape groups_from groups_of rule.keep_out rule.outs rule.pair_with rule.keep_pair rule.pairs rule.better rule.lead rule.best rule.worth rule.if_worth rule.choice rule.entry rule.merge rule.follow rule.step rule.run rule.number rule.start rule.merged rule.total no_later dense same_shape number_of is_among belongs final_of is_ahead finals_of shared
both = refl

pub p8-sizes : Sizes 2 p8
p8-sizes = sizes 2 p8
