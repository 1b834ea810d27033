-- D3: merging is the rule's (rule's specs/Model.antt), of every done build: in mode 0 on the groups of what the job says, and in mode 1 there is none.
-- Assumes nothing.
use Rattle.std.specs.Prelude.{◌≡◌, ℕ, suc, ◌+◌, ◌-◌, ◌*◌, ◌/◌, ◌≤◌, ◌<◌, eqb, length, get_or, take}
use Rattle.std.proofs.Math.Option.{some}
use mathlib.Core.List.{List, [], map, Memᴰ}
use Rattle.laws.specs.Pick.{pick}
use Rattle.laws.specs.Every.{All, EachTwo}
use Rattle.laws.specs.Bag.{weigh}
use Rattle.laws.specs.Sorting.{sorted}
use Rattle.shapes.specs.Shape.{join}
use Rattle.shapes.specs.Group.{Group}
use Rattle.sets.specs.Ids.{distinct}
use Rattle.groups.specs.Groups.{groups_of}
use Rattle.rule.specs.Model.{Living, Pair, Entry, Ahead, gain_of, choice, entry, merge, run, start, merged, total}
use Rattle.rule.specs.Told.{words}
use Rattle.store.specs.Placing.{all_runs, store_of}
use Rattle.said.specs.Job.{Said, fine}
use Rattle.encoder.specs.Packed.{origins_of, is_ahead, final_of, one_cost}
use Rattle.sizes.specs.Sizes.{group_at, shapes_joined}
use Rattle.finishing.specs.declared.answers.Report.{Report}
use Rattle.finishing.specs.Late.{origin_words}
use Rattle.call.specs.Lending.{Lending}
use Rattle.call.specs.Build.{coords_in_use, packed_of, outcome_of, after}

-- ---- the rule on a list of groups

abbrev pub blank : Entry
blank = record { first = 0; second = 0; gain = 0 }

-- merge j, after j merges
pub record Joins (xs : List Group) (j : ℕ) : Type 0 where
  pub pair : Pair
  -- two living groups, the smaller number first
  pub first-lives : Memᴰ pair.first (run j (start xs)).living
  pub second-lives : Memᴰ pair.second (run j (start xs)).living
  pub in_order : pair.first.num < pair.second.num
  -- M3: it gains, and is ahead of every two living groups
  pub gains : 1 ≤ gain_of pair.first pair.second
  pub ahead : EachTwo (Ahead pair.first pair.second) (run j (start xs)).living
  -- M4, M5: it is joined, and is entry j of the log
  pub after : run (suc j) (start xs) ≡ merge (run j (start xs)) pair
  pub logged : get_or (merged xs).log j blank ≡ entry pair
  -- the modelled size falls by its gain
  pub falls : total (run j (start xs)).living ≡ total (run (suc j) (start xs)).living + gain_of pair.first pair.second

-- how often starting group i went into the groups
abbrev pub homes_of : ℕ → List Living → ℕ
homes_of i l = weigh (λ g. weigh (λ j. pick (eqb i j) 1 0) g.origins) l

-- a living group is made of the starting groups that went into it
pub record MadeOf (xs : List Group) (g : Living) : Type 0 where
  pub shape_is : g.group.shape ≡ shapes_joined xs g.origins
  pub sets-is : g.group.sets ≡ weigh (λ i. (group_at xs i).sets) g.origins

-- of starting groups xs: N, merges, pairs weighed, and the modelled size before and after
pub record Ruled (xs : List Group) (n merges weighed before after : ℕ) : Type 0 where
  -- they are those of the rule
  pub groups-are : n ≡ length xs
  pub merges-are : merges ≡ length (merged xs).log
  pub weighed-are : weighed ≡ (merged xs).weighed
  pub before-is : before ≡ total (start xs).living
  pub after_is : after ≡ total (merged xs).living
  -- every merge of the log is the pair that M3 chooses at that moment
  pub joined : (j : ℕ) → j < merges → Joins xs j
  -- together they make the modelled size smaller by just their gains
  pub falls : after + weigh (λ (e : Entry). e.gain) (merged xs).log ≡ before
  -- M6: at the end no two living groups gain
  pub gains-end : EachTwo (λ g h. gain_of g h ≡ 0) (merged xs).living
  -- fewer merges than groups, and none of none
  pub fewer-merges : 0 < n → merges < n
  pub none-merged : n ≡ 0 → merges ≡ 0
  -- M7
  pub pairs-weighed : weighed ≡ n * (n - 1) / 2 + merges * (n - 1) - merges * (merges + 1) / 2
  pub pairs-most : weighed ≤ (n - 1) * (n - 1)
  -- always, after any number of merges: each starting group is in just one living group, and each living group is made of
  -- its own
  pub one-group : (j i : ℕ) → i < n → homes_of i (run j (start xs)).living ≡ 1
  pub made_of : (j : ℕ) → All (MadeOf xs) (run j (start xs)).living

-- ---- a done build in mode 0

-- the starting groups of what a job says (M1)
abbrev pub groups_said : Said → List Group
groups_said s = groups_of (length s.used) s.sets

pub record Demand3 (c : Lending) (r : Report) : Type 0 where
  pub said : Said
  pub said-is : outcome_of c ≡ fine said
  -- what is answered is the rule's
  pub rule : Ruled (groups_said said) r.groups r.merges r.weighed r.before r.after
  -- M8: at no merge has a group that lives on the joined shape
  pub no-fold : (j : ℕ) (p : Pair) → choice (run j (start (groups_said said))).living ≡ some p
      → All (λ h. h.group.shape ≡ join p.first.group.shape p.second.group.shape → ⊥) p.rest
  -- M5: the lent log begins with the rule's, three words a merge
  pub log-front : take (3 * r.merges) (after c).lent.log ≡ words (merged (groups_said said)).log
  -- F6: the lent origins begin with where each starting group went, two words each
  pub origins-front : take (2 * r.groups) (after c).lent.origins ≡ origin_words 0 (origins_of (groups_said said))
  -- the groups that are written are the ones that merging leaves, in the order of shapes (F2), and the output begins with their store
  pub finals-are : (packed_of 0 said).finals
      ≡ map (final_of (length said.used) (groups_said said) (distinct said.sets)) (sorted is_ahead (merged (groups_said said)).living)
  pub written : take r.bytes (after c).lent.out
      ≡ store_of c.axes (coords_in_use said) (λ x. get_or (distinct said.sets) x []) (packed_of 0 said).finals
  pub subtables-are : r.subtables ≡ length (all_runs (packed_of 0 said).finals)

-- ---- a done build in mode 1 (A2)

pub record NoMerging (c : Lending) (r : Report) : Type 0 where
  pub said : Said
  pub said-is : outcome_of c ≡ fine said
  pub no-groups : r.groups ≡ 0
  pub no-merges : r.merges ≡ 0
  pub no_pairs : r.weighed ≡ 0
  pub before-is : r.before ≡ one_cost (length said.used) said.sets
  pub after_is : r.after ≡ one_cost (length said.used) said.sets
  pub log-kept : (after c).lent.log ≡ c.lent.log
  pub origins-kept : (after c).lent.origins ≡ c.lent.origins
