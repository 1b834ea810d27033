-- The final groups of a job's sets in mode 0, made again from the words of origins. Assumes nothing.
use mathlib.Core.Path.{◌≡◌, refl, sym, ap, subst, ◌∙◌}
use mathlib.Core.List.{List, [], ◌∷◌, map}
use mathlib.Core.Option.{none}
use mathlib.Core.Logic.{⊎_elim}
use Prim.Native.Nat.{ℕ, ◌+◌, ◌-◌, ◌*◌, ◌≤◌, ◌<◌, min}
use native.Mathlib.Omega.{arith}
use lib.ListN.{length, get_or, length-map}
use Rattle.laws.specs.Bag.{weigh, sum}
use Rattle.laws.specs.Sorting.{sorted}
use Rattle.laws.specs.Bounded.{tabulate}
use Rattle.laws.proofs.Cases.{lt-or-ge}
use Rattle.laws.proofs.ListLaws.{get_or-map-in}
use Rattle.laws.proofs.EveryLaws.{all-get_or}
use Rattle.laws.proofs.BagLaws.{sum_same}
use Rattle.laws.proofs.BoundedLaws.{length-tabulate, get_or-tabulate}
use Rattle.laws.proofs.SortLaws.{sorted_all, weigh-sorted}
use Rattle.shapes.specs.Shape.{Shape, join}
use Rattle.shapes.specs.Group.{Group, max_items}
use Rattle.shapes.proofs.ShapeLaws.{join-comm, join-assoc}
use Rattle.sets.specs.Set.{Set}
use Rattle.sets.specs.Ids.{distinct}
use Rattle.groups.specs.Groups.{groups_of}
use Rattle.rule.specs.Model.{Living, merged}
use Rattle.rule.proofs.Origins.{times, homes, one-home, no-home, join_of, sets_of, Made, made}
use Rattle.rows.specs.Subtable.{run_count_for}
use Rattle.store.specs.Placing.{Final, all_runs}
use Rattle.encoder.specs.Packed.{home_of, origins_of, is_ahead, final_of, finals_of, shared}
use Rattle.sizes.specs.Sizes.{group_at, shapes_joined}
use Rattle.sizes.proofs.Counted.{sizes}
use Rattle.finishing.specs.Late.{origin_words}
use Rattle.finishing.proofs.LoopLaws as finishing
use Rattle.origins.specs.Origins.{named_for, shape_back, rows_back, tables_before, TableOf, Rebuilt}
use Rattle.origins.proofs.FoldLaws.{fold_same}
use Rattle.origins.proofs.NamedLaws.{named-high, named_in, word_number, word-place, times-few, home-times, home_below}
use Rattle.origins.proofs.RunsLaws.{slot, slots, slots-long, table_at, tables-many}

abbrev nobody : Living
nobody = record { num = 0; group = record { shape = []; sets = 0 }; origins = [] }

abbrev nothing : Final
nothing = record { shape = []; ids = [] }

join-turn : (s t u : Shape) → join s (join t u) ≡ join t (join s u)
join-turn s t u = sym (join-assoc s t u) ∙ ap (λ (v : Shape). join v u) (join-comm s t) ∙ join-assoc t s u

-- ---- of starting groups

module _ (xs : List Group) where
  abbrev ordered : List Living
  ordered = sorted is_ahead (merged xs).living

  abbrev pub words : List ℕ
  words = origin_words 0 (origins_of xs)

  homes-ordered : (i : ℕ) → homes i ordered ≡ homes i (merged xs).living
  unfolding homes
  homes-ordered i = weigh-sorted is_ahead (λ (g : Living). times i g.origins) (merged xs).living

  one : (i : ℕ) → i < length xs → homes i ordered ≡ 1
  one i h = homes-ordered i ∙ (unfold merged in one-home (length xs) xs i h)

  not-one : (i : ℕ) → length xs ≤ i → homes i ordered ≡ 0
  not-one i h = homes-ordered i ∙ (unfold merged in no-home (length xs) xs i h)

  -- the starting groups that are named for final group q are those that went into it
  named-same : (q : ℕ) → q < length ordered → (i : ℕ) → times i (get_or ordered q nobody).origins ≡ times i (named_for q words)
  unfolding origins_of
  named-same q h i = ⊎_elim
      (λ (l : i < length xs). home-times i nobody ordered (one i l) q h ∙ sym (named_in q (λ k. home_of k ordered) i 0 (length xs) (omega arith) (omega arith)))
      (λ (l : length xs ≤ i).
      let z : times i (get_or ordered q nobody).origins ≡ 0 = omega (arith, times-few i nobody ordered q h, not-one i l) in
      z ∙ sym (named-high q (λ k. home_of k ordered) i 0 (length xs) (omega arith)))
      (lt-or-ge i (length xs))

  made_at : (q : ℕ) → q < length ordered → Made xs (get_or ordered q nobody)
  made_at q h = all-get_or (Made xs) ordered q nobody (sorted_all is_ahead (Made xs) (merged xs).living (unfold merged in made (length xs) xs)) h

  shapes-are : (l : List ℕ) → join_of xs l ≡ shapes_joined xs l
  unfolding join_of shapes_joined
  shapes-are [] = refl
  shapes-are (i ∷ l) = ap (join (group_at xs i).shape) (shapes-are l)

  shape_same : (l m : List ℕ) → ((i : ℕ) → times i l ≡ times i m) → shapes_joined xs l ≡ shapes_joined xs m
  unfolding shapes_joined
  shape_same = fold_same (shapes_joined xs) (λ i s. join (group_at xs i).shape s) (λ i l. refl) (λ i j s. join-turn (group_at xs i).shape (group_at xs j).shape s)

  sets_same : (l m : List ℕ) → ((i : ℕ) → times i l ≡ times i m) → weigh (λ i. (group_at xs i).sets) l ≡ weigh (λ i. (group_at xs i).sets) m
  unfolding weigh
  sets_same = fold_same (weigh (λ i. (group_at xs i).sets)) (λ i n. (group_at xs i).sets + n) (λ i l. refl) (λ i j n. omega arith)

  shape-back : (q : ℕ) → q < length ordered → (get_or ordered q nobody).group.shape ≡ shape_back xs words q
  unfolding shape_back
  shape-back q h =
      (made_at q h).shape_is
      ∙ shapes-are (get_or ordered q nobody).origins
      ∙ shape_same (get_or ordered q nobody).origins (named_for q words) (named-same q h)

  rows-back : (q : ℕ) → q < length ordered → (get_or ordered q nobody).group.sets ≡ rows_back xs words q
  unfolding rows_back sets_of
  rows-back q h = (made_at q h).sets-is ∙ sets_same (get_or ordered q nobody).origins (named_for q words) (named-same q h)

  -- ---- word by word

  abbrev place : ℕ → ℕ
  place i = home_of i ordered

  all-long : length (origins_of xs) ≡ length xs
  unfolding origins_of
  all-long = length-tabulate 0 (length xs) place

  pub told-long : length words ≡ 2 * length xs
  told-long = finishing.told-long 0 (origins_of xs) ∙ ap (λ (n : ℕ). 2 * n) all-long

  told-number : (i : ℕ) → i < length xs → get_or words (2 * i) 0 ≡ i
  told-number i h = omega (arith, word_number 0 (origins_of xs) i (omega (arith, all-long)))

  told-place : (i : ℕ) → i < length xs → get_or words (2 * i + 1) 0 < length ordered
  unfolding origins_of
  told-place i h =
      let e : 0 + i ≡ i = omega arith in
      omega (arith, word-place 0 (tabulate 0 (length xs) place) i (omega (arith, all-long)), get_or-tabulate 0 (length xs) place 0 i h ∙ ap place e, home_below i nobody ordered (one i h))

-- ---- of a job's sets

module _ (regions : ℕ) (jobs : List Set) where
  abbrev starting : List Group
  starting = groups_of regions jobs

  abbrev line : List Living
  line = sorted is_ahead (merged (groups_of regions jobs)).living

  abbrev pub finals : List Final
  finals = finals_of regions (groups_of regions jobs) (distinct jobs)

  abbrev final : Living → Final
  final = final_of regions (groups_of regions jobs) (distinct jobs)

  pub finals-long : length finals ≡ length line
  unfolding finals_of
  finals-long = length-map line final

  final-at : (q : ℕ) → q < length line → get_or finals q nothing ≡ final (get_or line q nobody)
  unfolding finals_of
  final-at q h = get_or-map-in final line q nobody nothing h

  final-shape : (q : ℕ) → q < length line → (get_or finals q nothing).shape ≡ shape_back starting (words starting) q
  unfolding final_of
  final-shape q h = ap (λ (f : Final). f.shape) (final-at q h) ∙ shape-back starting q h

  final-rows : (q : ℕ) → q < length line → length (get_or finals q nothing).ids ≡ rows_back starting (words starting) q
  final-rows q h =
      ap (λ (f : Final). length f.ids) (final-at q h)
      ∙ all-get_or (λ g. length (final g).ids ≡ g.group.sets) line q nobody
      (sorted_all is_ahead (λ g. length (final g).ids ≡ g.group.sets) (merged starting).living (sizes regions jobs).living-count) h
      ∙ rows-back starting q h

  final-some : (q : ℕ) → q < length line → 0 < length (get_or finals q nothing).ids
  final-some q h = all-get_or (λ (f : Final). 0 < length f.ids) finals q nothing (unfold shared in (sizes regions jobs).finals-some) (omega (arith, finals-long))

  module _ (number : ℕ → ℕ) (set : ℕ → Set) where
    before-is : (q : ℕ) → q ≤ length line → sum (λ p. length (slots number set (get_or finals p nothing))) q ≡ tables_before starting (words starting) q
    unfolding tables_before
    before-is q h =
        sum_same (λ p. run_count_for (rows_back starting (words starting) p)) (λ p. length (slots number set (get_or finals p nothing))) q
        (λ p l. slots-long number set (get_or finals p nothing) ∙ ap run_count_for (final-rows p (omega arith)))

    moved : (k : ℕ) {s t : Shape} {m n a b : ℕ} → s ≡ t → m ≡ n → a ≡ b
        → TableOf number s (min max_items (m - max_items * k)) (get_or (map (slot number set) (all_runs finals)) (a + k) none)
        → TableOf number t (min max_items (n - max_items * k)) (get_or (map (slot number set) (all_runs finals)) (b + k) none)
    moved k {s} {t} {m} {n} {a} {b} e f g x =
        subst (λ (o : ℕ). TableOf number t (min max_items (n - max_items * k)) (get_or (map (slot number set) (all_runs finals)) (o + k) none)) g
        (subst (λ (i : ℕ). TableOf number t (min max_items (i - max_items * k)) (get_or (map (slot number set) (all_runs finals)) (a + k) none)) f
        (subst (λ (u : Shape). TableOf number u (min max_items (m - max_items * k)) (get_or (map (slot number set) (all_runs finals)) (a + k) none)) e x))

    -- THE LAW
    pub rebuilt : Rebuilt starting (words starting) number (map (slot number set) (all_runs finals)) (length finals)
    rebuilt =
        let n = finals-long in
        record {
          long = told-long starting;
          numbered = λ i h. omega (arith, told-number starting i h);
          placed = λ i h. omega (arith, told-place starting i h);
          some-rows = λ q h. omega (arith, final-some q (omega arith), final-rows q (omega arith));
          tables-are = λ q k h b.
              moved k (final-shape q (omega arith)) (final-rows q (omega arith)) (before-is q (omega arith))
              (table_at number set finals nothing q k h (final-some q (omega arith)) (rw (final-rows q (omega arith)) b));
          tables-all = tables-many number set finals nothing ∙ before-is (length finals) (omega arith);
        }
