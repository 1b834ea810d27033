-- No two final groups gain by joining (D3), so the gain that is told is 0 or less (RULES Z4). Assumes nothing.
use mathlib.Core.Path.{◌≡◌, refl, ap, ap₂, ◌∙◌}
use mathlib.Core.List.{List, [], map}
use Prim.Native.Nat.{ℕ, ◌+◌, ◌≤◌, ◌<◌}
use native.Mathlib.Omega.{arith}
use lib.ListN.{length, get_or, length-map}
use Rattle.laws.specs.Every.{All, EachTwo}
use Rattle.laws.specs.Sorting.{sorted}
use Rattle.laws.proofs.Cases.{Tri, tri}
use Rattle.laws.proofs.Cases.Tri.{below, same, above}
use Rattle.laws.proofs.EveryLaws.{all-get_or, two-get_or}
use Rattle.laws.proofs.ListLaws.{get_or-map-in}
use Rattle.laws.proofs.SortLaws.{sorted_all}
use Rattle.shapes.specs.Group.{Group, group_cost, joined, gain}
use Rattle.shapes.proofs.GroupLaws.{gain-comm}
use Rattle.sets.specs.Set.{Set}
use Rattle.sets.specs.Ids.{distinct}
use Rattle.groups.specs.Groups.{groups_of}
use Rattle.rule.specs.Model.{Living, gain_of, merged}
use Rattle.rule.proofs.Theorems.{all-gains-zero}
use Rattle.store.specs.Placing.{Final}
use Rattle.encoder.specs.Packed.{is_ahead, final_of, finals_of, shared}
use Rattle.encoder.proofs.LivingLaws.{sorted-each}
use Rattle.sizes.proofs.Counted.{sizes}
use Rattle.reasons.specs.Why.{home_in, final_no, counted}
use Rattle.why_told.specs.WhyTold.{InTwoGroups, NoGain}

none-gained : (g h : Group) → gain g h ≡ 0 → group_cost g + group_cost h ≤ group_cost (joined g h)
unfolding gain
none-gained g h z = omega arith

module _ (regions : ℕ) (jobs : List Set) where
  abbrev living : List Living
  living = (merged (groups_of regions jobs)).living

  abbrev line : List Living
  line = sorted is_ahead living

  abbrev final : Living → Final
  final = final_of regions (groups_of regions jobs) (distinct jobs)

  abbrev finals : List Final
  finals = (shared regions jobs).finals

  abbrev no_one : Living
  no_one = record { num = 0; group = record { shape = []; sets = 0 }; origins = [] }

  finals-line : (shared regions jobs).finals ≡ map (final_of regions (groups_of regions jobs) (distinct jobs)) (sorted is_ahead (merged (groups_of regions jobs)).living)
  unfolding shared finals_of
  finals-line = refl

  final-shape : (g : Living) → (final_of regions (groups_of regions jobs) (distinct jobs) g).shape ≡ g.group.shape
  unfolding final_of
  final-shape g = refl

  line-gains : EachTwo (λ g h. gain_of g h ≡ 0) (sorted is_ahead (merged (groups_of regions jobs)).living)
  line-gains = sorted-each (λ (g h : Living). gain_of g h ≡ 0) (λ g h e. gain-comm h.group g.group ∙ e) is_ahead living (all-gains-zero (groups_of regions jobs))

  line-count : All (λ g. length (final_of regions (groups_of regions jobs) (distinct jobs) g).ids ≡ g.group.sets) (sorted is_ahead (merged (groups_of regions jobs)).living)
  line-count = sorted_all is_ahead (λ (g : Living). length (final g).ids ≡ g.group.sets) living (sizes regions jobs).living-count

  long : length (shared regions jobs).finals ≡ length (sorted is_ahead (merged (groups_of regions jobs)).living)
  long = ap length finals-line ∙ length-map line final

  -- a final group is counted as the rule counts its living group
  counted_is : (i : ℕ) → i < length (shared regions jobs).finals → counted (final_no (shared regions jobs).finals i) ≡ (get_or (sorted is_ahead (merged (groups_of regions jobs)).living) i no_one).group
  counted_is i h =
      let b : i < length line = omega (arith, long) in
      let g = get_or line i no_one in
      let none : Final = record { shape = []; ids = [] } in
      ap (λ (l : List Final). counted (get_or l i none)) finals-line
      ∙ ap counted (get_or-map-in final line i no_one none b)
      ∙ (λ k. record { shape = final-shape g k; sets = all-get_or (λ (x : Living). length (final x).ids ≡ x.group.sets) line i no_one line-count b k })

  gains-none : (i j : ℕ) → i < length (shared regions jobs).finals → j < length (shared regions jobs).finals → (i ≡ j → ⊥)
      → gain (get_or (sorted is_ahead (merged (groups_of regions jobs)).living) i no_one).group (get_or (sorted is_ahead (merged (groups_of regions jobs)).living) j no_one).group ≡ 0
  gains-none i j h k d = go (tri i j)
    where
      go : Tri i j → gain (get_or (sorted is_ahead (merged (groups_of regions jobs)).living) i no_one).group (get_or (sorted is_ahead (merged (groups_of regions jobs)).living) j no_one).group ≡ 0
      go (below l) = two-get_or (λ g h. gain_of g h ≡ 0) line i j no_one line-gains l (omega (arith, long))
      go (same e) = absurd (d e)
      go (above l) = gain-comm (get_or line i no_one).group (get_or line j no_one).group ∙ two-get_or (λ g h. gain_of g h ≡ 0) line j i no_one line-gains l (omega (arith, long))

  -- D3: merging is over when no two living groups gain
  pub no-gain : (i j : ℕ) → i < length (shared regions jobs).finals → j < length (shared regions jobs).finals → (i ≡ j → ⊥) → NoGain (final_no (shared regions jobs).finals i) (final_no (shared regions jobs).finals j)
  no-gain i j h k d =
      none-gained (counted (final_no finals i)) (counted (final_no finals j))
      (ap₂ gain (counted_is i h) (counted_is j k) ∙ gains-none i j h k d)

  -- so of two groups that were never joined the costs apart are at most the cost as one
  pub told-no-gain : (a b x y z : ℕ) → home_in a (shared regions jobs).finals < length (shared regions jobs).finals → home_in b (shared regions jobs).finals < length (shared regions jobs).finals
      → InTwoGroups (shared regions jobs).finals a b x y z → x + y ≤ z
  told-no-gain a b x y z h k t =
      let n = no-gain (home_in a finals) (home_in b finals) h k t.two-groups in
      omega (arith, t.first-cost, t.second-cost, t.joined-cost)
