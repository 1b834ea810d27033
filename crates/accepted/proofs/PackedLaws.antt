-- What packed sets are, in either mode: each final group has a width for each region and covers its sets, and each id has one row. Assumes nothing.
use mathlib.Core.Path.{◌≡◌, refl, sym, ap, subst, ◌∙◌}
use mathlib.Core.Bool.{Bool, true}
use mathlib.Core.Logic.{⊎_elim}
use mathlib.Core.List.Memᴰ
use mathlib.Core.List.{List, [], ◌∷◌, map, Memᴰ}
use Prim.Native.Nat.{ℕ, zero, ◌+◌, ◌^◌, ◌≤◌, ◌<◌}
use native.Mathlib.Omega.{arith}
use lib.Dec.{eqb}
use borrow.Author.Tests.{eq-eqb}
use lib.ListN.{length, get_or, replicate, length-map, length-replicate, get_or-replicate, get_or-eq_default}
use Rattle.laws.specs.Pick.{pick}
use Rattle.laws.specs.Every.{All, EachTwo}
use Rattle.laws.specs.Bag.{weigh}
use Rattle.laws.specs.Bounded.{up_to}
use Rattle.laws.specs.Signed.{value}
use Rattle.laws.specs.Sorting.{sorted, keep}
use Rattle.laws.specs.Joining.{join_all}
use Rattle.laws.proofs.Cases.{Which, which, lt-or-ge}
use Rattle.laws.proofs.Cases.Which.{holds, fails}
use Rattle.laws.proofs.EveryLaws.{all, all-imp, all-and, all_map, all-unmap, all-get_or, two-imp}
use Rattle.laws.proofs.BoundedLaws.{get_or-tabulate}
use Rattle.laws.proofs.SortLaws.{sorted_all}
use Rattle.laws.proofs.SortMap.{keep_all, keep_two, keep-passes, length-sorted}
use Rattle.laws.proofs.Pigeon.{few-below}
use Rattle.laws.proofs.UpLaws.{up-all, up-differ}
use Rattle.shapes.specs.declared.width.ColumnBits.{ColumnBits}
use Rattle.shapes.specs.declared.width.ColumnBits.TheVariants.{None, One, Two, Four}
use Rattle.shapes.specs.Width.{width_of, cost_of}
use Rattle.shapes.specs.Shape.{Shape, join}
use Rattle.shapes.specs.Group.{Group}
use Rattle.shapes.proofs.WidthLaws.{none-cost, cost-most}
use Rattle.shapes.proofs.ShapeLaws.{join-at}
use Rattle.sets.specs.Set.{Set, Proper, word_of}
use Rattle.sets.specs.Ids.{distinct}
use Rattle.sets.proofs.SetLaws.{word-past}
use Rattle.sets.proofs.IdLaws.{distinct-all}
use Rattle.groups.specs.Groups.{shape_of, groups_of}
use Rattle.groups.specs.Cover.{cover_from, cover_of}
use Rattle.groups.proofs.GroupLaws.{shape-length, from_all, groups-long, groups-unlike, groups-some, groups-has, Has}
use Rattle.groups.proofs.CoverLaws.{cover-length, covers-each}
use Rattle.rule.specs.Model.{Living, start, run, merged}
use Rattle.rule.proofs.Theorems as theorems
use Rattle.rule.proofs.Origins.{times, homes, one-home, no-home, join_of, Made, made, Home, home}
use Rattle.rows.specs.Row.{word_in, Widths, Covers}
use Rattle.store.specs.Placing.{Final}
use Rattle.encoder.specs.Packed.{Packed, no_later, dense, number_of, belongs, final_of, is_ahead, finals_of, shared, own}
use Rattle.encoder.proofs.DenseIds.{dense-below}
use Rattle.encoder.proofs.NumberLaws.{number_at, among-mem, among, mem-sorted}
use Rattle.encoder.proofs.LivingLaws.{sorted-each, two-map}
use Rattle.limits.specs.Limits.{max_shapes}
use Rattle.accepted.proofs.ManyLaws.{mem-join, all_join, mem-keep, mem-map, two-join, Cross, up-has}

-- the ids of all rows, group after group
abbrev pub row_ids : List Final → List ℕ
row_ids gs = join_all (map (λ (g : Final). g.ids) gs)

-- the words of a set's values are of 32 bits
abbrev pub Words : Set → Type 0
Words s = All (λ (e : ℕ × ℕ). e.1 < 256 ^ 4) s

pub record WellPacked (regions : ℕ) (k : Packed) : Type 0 where
  -- W1, W3: each width is None, One, Two or Four
  pub long : All (λ (g : Final). length g.shape ≡ regions) k.finals
  pub widths : All (λ (g : Final). Widths g.shape) k.finals
  -- each row is of an id, and its group's shape holds the values of the id's set
  pub covers : All (λ (g : Final). All (λ x. (x < length k.sets) × Covers g.shape (get_or k.sets x [])) g.ids) k.finals
  -- each id has a row, and no id has two
  pub each : (x : ℕ) → x < length k.sets → Memᴰ x (row_ids k.finals)
  pub once : EachTwo (λ x y. x ≡ y → ⊥) (row_ids k.finals)
  -- merging makes no groups
  pub finals-few : k.groups ≤ max_shapes → length k.finals ≤ max_shapes

-- ---- words

pub word_same : (s : Set) (r : ℕ) → word_in s r ≡ word_of s r
unfolding word_in word_of
word_same [] r = refl
word_same (e ∷ s) r = ap (pick (eqb e.0 r) e.1) (word_same s r)

word_low : (s : Set) (r : ℕ) → Words s → word_of s r < 256 ^ 4
unfolding word_of
word_low [] r h = omega arith
word_low (e ∷ s) r h = go (word_low s r h.1) (which (eqb e.0 r))
  where
    go : word_of s r < 256 ^ 4 → Which (eqb e.0 r) → pick (eqb e.0 r) e.1 (word_of s r) < 256 ^ 4
    go rec (holds t) = rw t h.0
    go rec (fails t) = rw t rec

-- ---- the shape of a set

shape_at : (regions : ℕ) (s : Set) (r : ℕ) → r < regions → get_or (shape_of regions s) r 0 ≡ cost_of (width_of (value (word_of s r)))
unfolding shape_of
shape_at regions s r h =
    let e : 0 + r ≡ r = omega arith in
    get_or-tabulate 0 regions (λ k. cost_of (width_of (value (word_of s k)))) 0 r h ∙ ap (λ (k : ℕ). cost_of (width_of (value (word_of s k)))) e

shape-past : (regions : ℕ) (s : Set) (r : ℕ) → regions ≤ r → get_or (shape_of regions s) r 0 ≡ 0
shape-past regions s r h =
    let l : length (shape_of regions s) ≤ r = omega (arith, shape-length regions s) in
    get_or-eq_default (shape_of regions s) 0 l

cost-one-of : (b : ColumnBits) → cost_of b ≡ 3 → ⊥
unfolding cost_of
cost-one-of None e = omega arith
cost-one-of One e = omega arith
cost-one-of Two e = omega arith
cost-one-of Four e = omega arith

shape-widths : (regions : ℕ) (s : Set) → Widths (shape_of regions s)
shape-widths regions s = record {
  most = λ r. ⊎_elim
      (λ (h : r < regions). omega (arith, shape_at regions s r h, cost-most (width_of (value (word_of s r)))))
      (λ h. omega (arith, shape-past regions s r h))
      (lt-or-ge r regions);
  one_of = λ r e. ⊎_elim
      (λ (h : r < regions). cost-one-of (width_of (value (word_of s r))) (sym (shape_at regions s r h) ∙ e))
      (λ h. omega (arith, shape-past regions s r h))
      (lt-or-ge r regions);
}

-- a shape that is as wide as the set's covers it
covers_of : (regions : ℕ) (s : Set) (t : Shape) → Proper regions s → Words s → ((r : ℕ) → get_or (shape_of regions s) r 0 ≤ get_or t r 0) → Covers t s
covers_of regions s t p low h = record {
  word = λ r. rw (word_same s r) (word_low s r low);
  holds = λ r. rw (word_same s r) (⊎_elim
      (λ (l : r < regions). omega (arith, shape_at regions s r l, h r))
      (λ l. omega (arith, none-cost (word_of s r) (word-past regions r s p l)))
      (lt-or-ge r regions));
}

-- ---- joins

none-widths : Widths []
none-widths = record { most = λ r. omega arith; one_of = λ r e. omega arith }

join-widths : (s t : Shape) → Widths s → Widths t → Widths (join s t)
join-widths s t p q = record {
  most = λ r. omega (arith, join-at s t r, p.most r, q.most r);
  one_of = λ r e. omega (arith, join-at s t r, p.one_of r, q.one_of r);
}

abbrev nil : Group
nil = record { shape = []; sets = 0 }

join-of-widths : (xs : List Group) (l : List ℕ) → All (λ (g : Group). Widths g.shape) xs → Widths (join_of xs l)
unfolding join_of
join-of-widths xs [] h = none-widths
join-of-widths xs (i ∷ l) h = join-widths (get_or xs i nil).shape (join_of xs l)
    (⊎_elim
    (λ (b : i < length xs). all-get_or (λ (g : Group). Widths g.shape) xs i nil h b)
    (λ b. subst (λ (g : Group). Widths g.shape) (sym (get_or-eq_default xs nil b)) none-widths)
    (lt-or-ge i (length xs)))
    (join-of-widths xs l h)

-- a join is as wide as each of its parts
join-of-holds : (xs : List Group) (l : List ℕ) (i : ℕ) → Memᴰ i l → (r : ℕ) → get_or (get_or xs i nil).shape r 0 ≤ get_or (join_of xs l) r 0
unfolding join_of
join-of-holds xs [] i m r = absurd (Memᴰ.not-nil m)
join-of-holds xs (j ∷ l) i m r = ⊎_elim
    (λ (e : i ≡ j). rw e (omega (arith, join-at (get_or xs j nil).shape (join_of xs l) r)))
    (λ t. omega (arith, join-at (get_or xs j nil).shape (join_of xs l) r, join-of-holds xs l i t r))
    (Memᴰ.cases_cons m)

cover-widths : (regions : ℕ) (s : Shape) (l : List Set) → Widths s → Widths (cover_from regions s l)
unfolding cover_from
cover-widths regions s [] w = w
cover-widths regions s (x ∷ l) w = cover-widths regions (join s (shape_of regions x)) l (join-widths s (shape_of regions x) w (shape-widths regions x))

-- ---- origins

-- no starting group is an origin of both
abbrev Apart : Living → Living → Type 0
Apart g h = (i : ℕ) → Memᴰ i g.origins → Memᴰ i h.origins → ⊥

times-some : (i : ℕ) (l : List ℕ) → Memᴰ i l → 0 < times i l
unfolding times weigh
times-some i [] m = absurd (Memᴰ.not-nil m)
times-some i (j ∷ l) m = ⊎_elim
    (λ (e : i ≡ j). rw (eq-eqb i j e) (omega arith))
    (λ t. omega (arith, times-some i l t))
    (Memᴰ.cases_cons m)

apart-all : (g : Living) (l : List Living) → ((i : ℕ) → times i g.origins + homes i l ≤ 1) → All (Apart g) l
unfolding homes weigh
apart-all g [] h = tt
apart-all g (k ∷ l) h = (
  λ i m n. omega (arith, h i, times-some i g.origins m, times-some i k.origins n),
  apart-all g l (λ i. omega (arith, h i)),
)

apart-two : (l : List Living) → ((i : ℕ) → homes i l ≤ 1) → EachTwo Apart l
unfolding homes weigh
apart-two [] h = tt
apart-two (g ∷ l) h = (apart-all g l h, apart-two l (λ i. omega (arith, h i)))

-- ---- mode 0

module _ (regions : ℕ) (jobs : List Set) (proper : All (Proper regions) jobs) (low : All (λ (s : Set). Words s) jobs) where
  abbrev groups : List Group
  groups = groups_of regions jobs

  abbrev sets : List Set
  sets = distinct jobs

  abbrev living : List Living
  living = (merged groups).living

  abbrev num : ℕ → ℕ
  num x = number_of (shape_of regions (get_or sets x [])) groups

  abbrev belong : Living → ℕ → Bool
  belong g x = belongs regions groups g (get_or sets x [])

  proper-at : (x : ℕ) → x < length sets → Proper regions (get_or sets x [])
  proper-at x h = all-get_or (Proper regions) sets x [] (distinct-all (Proper regions) [] jobs tt proper) h

  low-at : (x : ℕ) → x < length sets → Words (get_or sets x [])
  low-at x h = all-get_or (λ (s : Set). Words s) sets x [] (distinct-all (λ (s : Set). Words s) [] jobs tt low) h

  -- the group of a set's shape
  shape_has : (x : ℕ) → x < length sets → Has (shape_of regions (get_or sets x [])) groups
  shape_has x h = all-get_or (λ (s : Set). Has (shape_of regions s) groups) sets x []
      (all-unmap (λ (s : Shape). Has s groups) (shape_of regions) sets (groups-has regions jobs)) h

  num-is : (x : ℕ) (h : x < length sets) → num x ≡ (shape_has x h).place
  num-is x h =
      let k = shape_has x h in
      number_at groups k.place nil (shape_of regions (get_or sets x [])) (groups-unlike regions jobs) k.below (sym k.here)

  num-below : (x : ℕ) → x < length sets → num x < length groups
  num-below x h = omega (arith, num-is x h, (shape_has x h).below)

  num-shape : (x : ℕ) → x < length sets → (get_or groups (num x) nil).shape ≡ shape_of regions (get_or sets x [])
  num-shape x h = ap (λ (i : ℕ). (get_or groups i nil).shape) (num-is x h) ∙ (shape_has x h).here

  origin : (g : Living) (x : ℕ) → belong g x ≡ true → Memᴰ (num x) g.origins
  unfolding belongs
  origin g x h = among-mem (num x) g.origins h

  origin-of : (g : Living) (x : ℕ) → Memᴰ (num x) g.origins → belong g x ≡ true
  unfolding belongs
  origin-of g x m = among (num x) g.origins m

  -- ---- the living groups

  groups-proper : theorems.Proper regions groups
  groups-proper = record {
    full = all-and (λ (g : Group). 0 < g.sets) (λ (g : Group). length g.shape ≡ regions) groups (groups-some regions jobs) (groups-long regions jobs);
    distinct = groups-unlike regions jobs;
  }

  groups-widths : All (λ (g : Group). Widths g.shape) groups
  unfolding groups_of
  groups-widths = from_all (λ (g : Group). Widths g.shape) [] (map (shape_of regions) sets)
      (all_map (λ (s : Shape). Widths s) (shape_of regions) sets (all (λ (s : Set). shape-widths regions s) sets)) (λ g q. q) tt

  living-made : All (Made groups) living
  unfolding merged
  living-made = made (length groups) groups

  living-long : All (λ (g : Living). length g.group.shape ≡ regions) living
  unfolding merged
  living-long = all-imp (λ (g : Living) f. f.1) (run (length groups) (start groups)).living (theorems.run-full regions (length groups) groups groups-proper)

  living-widths : All (λ (g : Living). Widths g.group.shape) living
  living-widths = all-imp (λ (g : Living) m. rw m.shape_is (join-of-widths groups g.origins groups-widths)) living living-made

  living-apart : EachTwo Apart living
  unfolding merged
  living-apart = apart-two (run (length groups) (start groups)).living
      (λ i. ⊎_elim
      (λ (h : i < length groups). omega (arith, one-home (length groups) groups i h))
      (λ h. omega (arith, no-home (length groups) groups i h))
      (lt-or-ge i (length groups)))

  living-few : length living ≤ length groups
  unfolding merged
  living-few = omega (arith, theorems.run-count (length groups) groups)

  home-of : (x : ℕ) → x < length sets → Home living (num x)
  unfolding merged
  home-of x h = home (length groups) groups (num x) (num-below x h)

  -- ---- their sets

  dense-has : (x : ℕ) → x < length sets → Memᴰ x (dense sets)
  unfolding dense
  dense-has x h = mem-sorted (no_later sets) (up_to (length sets)) x (up-has (length sets) x h)

  dense-differ : EachTwo (λ x y. x ≡ y → ⊥) (dense sets)
  unfolding dense
  dense-differ = sorted-each (λ (x y : ℕ). x ≡ y → ⊥) (λ x y d e. d (sym e)) (no_later sets) (up_to (length sets)) (up-differ (length sets))

  abbrev ids : Living → List ℕ
  ids g = keep (belong g) (dense sets)

  holds_at : (g : Living) → Made groups g → (x : ℕ) → x < length sets → belong g x ≡ true → Covers g.group.shape (get_or sets x [])
  holds_at g m x h b =
      covers_of regions (get_or sets x []) g.group.shape (proper-at x h) (low-at x h)
      (λ r.
      let e = ap (λ (s : Shape). get_or s r 0) (num-shape x h) in
      let f = ap (λ (s : Shape). get_or s r 0) m.shape_is in
      omega (arith, join-of-holds groups g.origins (num x) (origin g x b) r))

  ids-covered : (g : Living) → Made groups g → All (λ x. (x < length sets) × Covers g.group.shape (get_or sets x [])) (ids g)
  ids-covered g m = all-imp (λ x h. (h.0, holds_at g m x h.0 h.1)) (ids g)
      (all-and (λ x. x < length sets) (λ x. belong g x ≡ true) (ids g) (keep_all (belong g) (λ x. x < length sets) (dense sets) (dense-below sets)) (keep-passes (belong g) (dense sets)))

  ids-cross : (g h : Living) → Apart g h → Cross (λ x y. x ≡ y → ⊥) (ids g) (ids h)
  ids-cross g h a = all-imp
      (λ x p. all-imp (λ y q e. a (num x) (origin g x p) (subst (λ (z : ℕ). Memᴰ (num z) h.origins) (sym e) (origin h y q))) (ids h) (keep-passes (belong h) (dense sets)))
      (ids g) (keep-passes (belong g) (dense sets))

  abbrev line : List Living
  line = sorted is_ahead living

  abbrev final : Living → Final
  final = final_of regions groups sets

  -- ---- in all

  pub shared-good : WellPacked regions (shared regions jobs)
  unfolding shared finals_of final_of
  shared-good = record {
    long = all_map (λ (f : Final). length f.shape ≡ regions) final line
        (sorted_all is_ahead (λ (g : Living). length g.group.shape ≡ regions) living living-long);
    widths = all_map (λ (f : Final). Widths f.shape) final line
        (sorted_all is_ahead (λ (g : Living). Widths g.group.shape) living living-widths);
    covers = all_map (λ (f : Final). All (λ x. (x < length sets) × Covers f.shape (get_or sets x [])) f.ids) final line
        (all-imp ids-covered line (sorted_all is_ahead (Made groups) living living-made));
    each = λ x h.
        let k = home-of x h in
        mem-join x (map (λ (f : Final). f.ids) (map final line)) (ids k.group)
        (mem-map (λ (f : Final). f.ids) (final k.group) (map final line) (mem-map final k.group line (mem-sorted is_ahead living k.group k.here)))
        (mem-keep (belong k.group) x (dense sets) (dense-has x h) (origin-of k.group x k.origin));
    once = two-join (λ (x y : ℕ). x ≡ y → ⊥) (map (λ (f : Final). f.ids) (map final line))
        (all_map (λ (l : List ℕ). EachTwo (λ x y. x ≡ y → ⊥) l) (λ (f : Final). f.ids) (map final line)
        (all_map (λ (f : Final). EachTwo (λ x y. x ≡ y → ⊥) f.ids) final line
        (all (λ (g : Living). keep_two (belong g) (λ x y. x ≡ y → ⊥) (dense sets) dense-differ) line)))
        (two-map (λ (l m : List ℕ). Cross (λ x y. x ≡ y → ⊥) l m) (λ (f : Final). f.ids) (map final line)
        (two-map (λ (f h : Final). Cross (λ x y. x ≡ y → ⊥) f.ids h.ids) final line
        (two-imp ids-cross line (sorted-each Apart (λ g h a i m n. a i n m) is_ahead living living-apart))));
    finals-few = λ h. omega (arith, length-map line final, length-sorted is_ahead living, living-few);
  }

-- ---- mode 1

abbrev zeros : ℕ → Shape
zeros n = replicate n 0

zero-at : (n r : ℕ) → get_or (zeros n) r 0 ≡ 0
zero-at n r = ⊎_elim
    (λ (h : r < n). get_or-replicate n r 0 0 h)
    (λ h. let l : length (zeros n) ≤ r = omega (arith, length-replicate n zero) in get_or-eq_default (zeros n) 0 l)
    (lt-or-ge r n)

zero-widths : (n : ℕ) → Widths (zeros n)
zero-widths n = record { most = λ r. omega (arith, zero-at n r); one_of = λ r e. omega (arith, zero-at n r) }

pub own-good : (regions : ℕ) (jobs : List Set) → All (Proper regions) jobs → All (λ (s : Set). Words s) jobs → WellPacked regions (own regions jobs)
unfolding own
own-good regions jobs proper low =
    let n = length jobs in
    let none = zeros regions in
    record {
      long = (cover-length regions none jobs (length-replicate regions zero), tt);
      widths = (cover-widths regions none jobs (zero-widths regions), tt);
      covers = (
        all-imp (λ x h. (
          h,
          covers_of regions (get_or jobs x []) (cover_of regions jobs) (all-get_or (Proper regions) jobs x [] proper h) (all-get_or (λ (s : Set). Words s) jobs x [] low h)
              (all-get_or (λ (s : Set). (r : ℕ) → get_or (shape_of regions s) r 0 ≤ get_or (cover_of regions jobs) r 0) jobs x [] (covers-each regions none jobs) h),
        )) (up_to n) (up-all n),
        tt,
      );
      each = λ x h. mem-join x (up_to n ∷ []) (up_to n) (Memᴰ.head refl) (up-has n x h);
      once = two-join (λ (x y : ℕ). x ≡ y → ⊥) (up_to n ∷ []) (up-differ n, tt) (tt, tt);
      finals-few = λ h. omega arith;
    }

-- ---- no more rows than ids

pub rows-most : (regions : ℕ) (k : Packed) → WellPacked regions k → length (row_ids k.finals) ≤ length k.sets
rows-most regions k g = few-below (length k.sets) (row_ids k.finals)
    (all_join (λ x. x < length k.sets) (map (λ (f : Final). f.ids) k.finals)
    (all_map (λ (l : List ℕ). All (λ x. x < length k.sets) l) (λ (f : Final). f.ids) k.finals
    (all-imp (λ (f : Final) h. all-imp (λ x c. c.0) f.ids h) k.finals g.covers)))
    g.once
