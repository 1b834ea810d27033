-- The groups of the rule count the sets that their final groups hold, so the modelled size is that of what is written. Assumes nothing.
use mathlib.Core.Path.{◌≡◌, sym, ap, ◌∙◌}
use mathlib.Core.List.{List, [], ◌∷◌, map}
use mathlib.Core.Logic.{⊎_elim}
use Prim.Native.Nat.{ℕ, ◌≤◌, ◌<◌}
use native.Mathlib.Omega.{arith}
use lib.ListN.{length, get_or}
use lib.Dec.{eqb}
use borrow.Author.Tests.{eq-eqb, ne_eqb}
use Rattle.laws.specs.Pick.{one_if}
use Rattle.laws.specs.Every.{All}
use Rattle.laws.specs.Bag.{weigh}
use Rattle.laws.specs.Bounded.{up_to}
use Rattle.laws.specs.Sorting.{sorted}
use Rattle.laws.proofs.Cases.{lt-or-ge, same_or_not}
use Rattle.laws.proofs.EveryLaws.{all-imp, all-and, all_map, all-unmap, all-get_or}
use Rattle.laws.proofs.SortLaws.{sorted_all, weigh-sorted, keep-long}
use Rattle.laws.proofs.BagLaws.{weigh-map, weigh-same}
use Rattle.laws.proofs.UpLaws.{weigh-places}
use Rattle.shapes.specs.Shape.{Shape}
use Rattle.shapes.specs.Group.{Group, group_cost}
use Rattle.shapes.proofs.OrderLaws.{order-self}
use Rattle.sets.specs.Set.{Set}
use Rattle.sets.specs.Ids.{distinct}
use Rattle.groups.specs.Groups.{shape_of, groups_of}
use Rattle.groups.proofs.GroupLaws.{shape-length, groups-long, groups-unlike, groups-some, groups-has, Has}
use Rattle.rule.specs.Model.{Living, merged, total}
use Rattle.rule.proofs.Theorems as theorems
use Rattle.rule.proofs.Origins.{times, homes, one-home, no-home, sets_of, Made, made}
use Rattle.store.specs.Placing.{Final}
use Rattle.readback.proofs.PlainLaws.{runs-one}
use Rattle.encoder.specs.Packed.{dense, no_later, number_of, is_among, belongs, final_of, is_ahead, finals_of, shared}
use Rattle.encoder.proofs.NumberLaws.{number_at}
use Rattle.sizes.specs.Sizes.{cost_of, group_at, Sizes}
use Rattle.sizes.proofs.Shares.{is_shape, groups-share}
use Rattle.sizes.proofs.CountLaws.{times-each, among-times, homes-each, times_below, unlike-zero, share-at}

module _ (regions : ℕ) (jobs : List Set) where
  abbrev groups : List Group
  groups = groups_of regions jobs

  abbrev sets : List Set
  sets = distinct jobs

  abbrev living : List Living
  living = (merged groups).living

  abbrev num : Set → ℕ
  num s = number_of (shape_of regions s) groups

  abbrev nil : Group
  nil = record { shape = []; sets = 0 }

  -- ---- the starting groups

  -- 1 where a set's group has the number i, and so where its shape is that group's
  number-shape : (i : ℕ) → i < length groups → (s : Set) → Has (shape_of regions s) groups → one_if (eqb (num s) i) ≡ is_shape (group_at groups i).shape (shape_of regions s)
  number-shape i h s k =
      let u = (group_at groups i).shape in
      let at : num s ≡ k.place = number_at groups k.place nil (shape_of regions s) (groups-unlike regions jobs) k.below (sym k.here) in
      let long : length u ≡ length (shape_of regions s) =
      all-get_or (λ (g : Group). length g.shape ≡ regions) groups i nil (groups-long regions jobs) h ∙ sym (shape-length regions s) in
      ⊎_elim
      (λ (e : num s ≡ i).
      let same : u ≡ shape_of regions s = ap (λ (j : ℕ). (group_at groups j).shape) (sym e ∙ at) ∙ k.here in
      ap one_if (eq-eqb (num s) i e) ∙ sym (ap (is_shape u) (sym same) ∙ self u))
      (λ d.
      ap one_if (ne_eqb (num s) i d)
      ∙ sym (unlike-zero u (shape_of regions s) long (λ e. d (number_at groups i nil (shape_of regions s) (groups-unlike regions jobs) h (sym e)))))
      (same_or_not (num s) i)
    where
      self : (u : Shape) → is_shape u u ≡ 1
      self u = rw (order-self u)

  shapes-have : All (λ s. Has (shape_of regions s) groups) sets
  shapes-have = all-unmap (λ (s : Shape). Has s groups) (shape_of regions) sets (groups-has regions jobs)

  -- a starting group's sets are those whose group has its number
  number-count : (i : ℕ) → i < length groups → weigh (λ s. one_if (eqb (num s) i)) sets ≡ (group_at groups i).sets
  number-count i h =
      weigh-same (λ s. one_if (eqb (num s) i)) (λ s. is_shape (group_at groups i).shape (shape_of regions s)) sets (all-imp (number-shape i h) sets shapes-have)
      ∙ sym (groups-share regions (group_at groups i).shape jobs)
      ∙ share-at regions groups i (groups-long regions jobs) (groups-unlike regions jobs) h

  -- ---- the living groups

  module _ (g : Living) (m : Made groups g) (few : (i : ℕ) → times i g.origins ≤ homes i living) where
    homes-one : (i : ℕ) → homes i living ≤ 1
    unfolding merged
    homes-one i = ⊎_elim
        (λ (h : i < length groups). omega (arith, one-home (length groups) groups i h))
        (λ h. omega (arith, no-home (length groups) groups i h))
        (lt-or-ge i (length groups))

    origins-below : All (λ i. i < length groups) g.origins
    unfolding merged
    origins-below = times_below (length groups) g.origins (λ i h. omega (arith, no-home (length groups) groups i h, few i))

    ids-count : length (final_of regions groups sets g).ids ≡ g.group.sets
    unfolding final_of belongs dense sets_of
    ids-count =
        keep-long (λ x. is_among (num (get_or sets x [])) g.origins) (sorted (no_later sets) (up_to (length sets)))
        ∙ weigh-sorted (no_later sets) (λ x. one_if (is_among (num (get_or sets x [])) g.origins)) (up_to (length sets))
        ∙ weigh-places (λ s. one_if (is_among (num s) g.origins)) sets []
        ∙ weigh-same (λ s. one_if (is_among (num s) g.origins)) (λ s. times (num s) g.origins) sets (every sets)
        ∙ times-each num sets g.origins
        ∙ weigh-same (λ i. weigh (λ s. one_if (eqb (num s) i)) sets) (λ i. (group_at groups i).sets) g.origins (all-imp number-count g.origins origins-below)
        ∙ sym m.sets-is
      where
        every : (l : List Set) → All (λ s. one_if (is_among (num s) g.origins) ≡ times (num s) g.origins) l
        every [] = tt
        every (s ∷ l) = (among-times (num s) g.origins (omega (arith, few (num s), homes-one (num s))), every l)

  counts : All (λ g. length (final_of regions groups sets g).ids ≡ g.group.sets) living
  unfolding merged
  counts = all-imp (λ g h. ids-count g h.0 h.1) living
      (all-and (Made groups) (λ g. (i : ℕ) → times i g.origins ≤ homes i living) living (made (length groups) groups) (homes-each living))

  groups-proper : theorems.Proper regions groups
  groups-proper = record {
    full = all-and (λ (g : Group). 0 < g.sets) (λ (g : Group). length g.shape ≡ regions) groups (groups-some regions jobs) (groups-long regions jobs);
    distinct = groups-unlike regions jobs;
  }

  living-some : All (λ g. 0 < g.group.sets) living
  unfolding merged
  living-some = all-imp (λ (g : Living) f. f.0) living (theorems.run-full regions (length groups) groups groups-proper)

  abbrev final : Living → Final
  final = final_of regions groups sets

  finals-filled : All (λ f. 0 < length f.ids) (map final (sorted is_ahead living))
  finals-filled = all_map (λ (f : Final). 0 < length f.ids) final (sorted is_ahead living)
      (sorted_all is_ahead (λ g. 0 < length (final g).ids) living
      (all-imp (λ g h. omega (arith, h.0, h.1)) living
      (all-and (λ g. length (final g).ids ≡ g.group.sets) (λ g. 0 < g.group.sets) living counts living-some)))

  final-cost : (g : Living) → length (final g).ids ≡ g.group.sets → cost_of (final g) ≡ group_cost g.group
  unfolding final_of
  final-cost g e = ap (λ (n : ℕ). group_cost (record { shape = g.group.shape; sets = n })) e

  finals-cost : weigh cost_of (map final (sorted is_ahead living)) ≡ total living
  unfolding total
  finals-cost =
      weigh-map cost_of final (sorted is_ahead living)
      ∙ weigh-sorted is_ahead (λ g. cost_of (final g)) living
      ∙ weigh-same (λ g. cost_of (final g)) (λ g. group_cost g.group) living (all-imp final-cost living counts)

  place_of : (x : ℕ) → x < length sets → (num (get_or sets x []) < length groups) × ((group_at groups (num (get_or sets x []))).shape ≡ shape_of regions (get_or sets x []))
  place_of x h =
      let k = all-get_or (λ (s : Set). Has (shape_of regions s) groups) sets x [] shapes-have h in
      let at : num (get_or sets x []) ≡ k.place =
      number_at groups k.place nil (shape_of regions (get_or sets x [])) (groups-unlike regions jobs) k.below (sym k.here) in
      (omega (arith, k.below), ap (λ (j : ℕ). (group_at groups j).shape) at ∙ k.here)

  -- THE LAW
  pub sizes : Sizes regions jobs
  unfolding shared finals_of
  sizes = record {
    starting-apart = groups-unlike regions jobs;
    starting-of = place_of;
    starting-count = λ i h.
        keep-long (λ x. eqb (num (get_or sets x [])) i) (up_to (length sets)) ∙ weigh-places (λ s. one_if (eqb (num s) i)) sets [] ∙ number-count i h;
    living-count = counts;
    finals-some = finals-filled;
    after_is = sym finals-cost;
    one-run = λ f h. runs-one f.shape f.ids h;
  }
