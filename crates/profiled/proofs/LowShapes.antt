-- Sets of values of 16 bits: no final group has a column of 32 bits, whatever was merged. Assumes nothing.
use mathlib.Core.Path.{◌≡◌, refl, sym, subst}
use mathlib.Core.Bool.{true}
use mathlib.Core.Logic.{⊎_elim}
use mathlib.Core.List.{List, [], ◌∷◌, map}
use Prim.Native.Nat.{ℕ, zero, ◌+◌, ◌≤◌, ◌<◌}
use native.Mathlib.Omega.{arith}
use lib.Dec.{eqb}
use lib.IntN.{ℤ}
use lib.ListN.{length, get_or, replicate, length-replicate, get_or-replicate, get_or-eq_default}
use Rattle.laws.specs.Pick.{pick}
use Rattle.laws.specs.Every.{All}
use Rattle.laws.specs.Sorting.{sorted}
use Rattle.laws.specs.Signed.{fits, is_zero, value}
use Rattle.laws.proofs.Cases.{Which, which, lt-or-ge}
use Rattle.laws.proofs.Cases.Which.{holds, fails}
use Rattle.laws.proofs.EveryLaws.{all-imp, all_map, all-get_or}
use Rattle.laws.proofs.BoundedLaws.{get_or-tabulate}
use Rattle.laws.proofs.SortLaws.{sorted_all}
use Rattle.shapes.specs.declared.width.ColumnBits.TheVariants.{None, One, Two, Four}
use Rattle.shapes.specs.Width.{width_of, cost_of}
use Rattle.shapes.specs.Shape.{Shape, join}
use Rattle.shapes.specs.Group.{Group}
use Rattle.shapes.proofs.ShapeLaws.{join-at}
use Rattle.sets.specs.Set.{Set, word_of}
use Rattle.sets.specs.Ids.{distinct}
use Rattle.sets.proofs.IdLaws.{distinct-all}
use Rattle.groups.specs.Groups.{shape_of, groups_of}
use Rattle.groups.specs.Cover.{cover_from}
use Rattle.groups.proofs.GroupLaws.{shape-length, from_all}
use Rattle.rule.specs.Model.{Living, start, run, merged}
use Rattle.rule.proofs.Origins.{join_of, Made, made}
use Rattle.store.specs.Placing.{Final}
use Rattle.encoder.specs.Packed.{final_of, is_ahead, finals_of, shared, own}
use Rattle.said.specs.Job.{Said}
use Rattle.call.specs.Build.{packed_of}
use Rattle.profiled.proofs.ShortSets.{ShortWord, ShortSet}

-- no width above Two
pub record Low (s : Shape) : Type 0 where
  pub most : (r : ℕ) → get_or s r 0 ≤ 2

-- ---- the shape of a set

cost-low : (z : ℤ) → fits 2 z ≡ true → cost_of (width_of z) ≤ 2
unfolding width_of cost_of
cost-low z e = go (which (is_zero z)) (which (fits 1 z))
  where
    go : Which (is_zero z) → Which (fits 1 z) → cost_of (pick (is_zero z) None (pick (fits 1 z) One (pick (fits 2 z) Two Four))) ≤ 2
    go (holds a) b = rw a (omega arith)
    go (fails a) (holds b) = rw (a, b) (omega arith)
    go (fails a) (fails b) = rw (a, b, e) (omega arith)

word-short : (s : Set) (r : ℕ) → ShortSet s → ShortWord (word_of s r)
unfolding word_of fits value
word-short [] r h = refl
word-short (e ∷ s) r h = go (word-short s r h.1) (which (eqb e.0 r))
  where
    go : ShortWord (word_of s r) → Which (eqb e.0 r) → ShortWord (pick (eqb e.0 r) e.1 (word_of s r))
    go rec (holds t) = rw t h.0
    go rec (fails t) = rw t rec

shape-low : (regions : ℕ) (s : Set) → ShortSet s → Low (shape_of regions s)
unfolding shape_of
shape-low regions s h = record { most = λ r. ⊎_elim (inside r) (past r) (lt-or-ge r regions) }
  where
    inside : (r : ℕ) → r < regions → get_or (shape_of regions s) r 0 ≤ 2
    inside r l =
        let e : 0 + r ≡ r = omega arith in
        rw (get_or-tabulate 0 regions (λ k. cost_of (width_of (value (word_of s k)))) 0 r l, e) (cost-low (value (word_of s r)) (word-short s r h))

    past : (r : ℕ) → regions ≤ r → get_or (shape_of regions s) r 0 ≤ 2
    past r l =
        let k : length (shape_of regions s) ≤ r = omega (arith, shape-length regions s) in
        omega (arith, get_or-eq_default (shape_of regions s) 0 k)

-- ---- joins

none-low : Low []
none-low = record { most = λ r. omega arith }

join-low : (s t : Shape) → Low s → Low t → Low (join s t)
join-low s t p q = record { most = λ r. omega (arith, join-at s t r, p.most r, q.most r) }

abbrev nil : Group
nil = record { shape = []; sets = 0 }

join-of-low : (xs : List Group) (l : List ℕ) → All (λ (g : Group). Low g.shape) xs → Low (join_of xs l)
unfolding join_of
join-of-low xs [] h = none-low
join-of-low xs (i ∷ l) h = join-low (get_or xs i nil).shape (join_of xs l)
    (⊎_elim
    (λ (b : i < length xs). all-get_or (λ (g : Group). Low g.shape) xs i nil h b)
    (λ b. subst (λ (g : Group). Low g.shape) (sym (get_or-eq_default xs nil b)) none-low)
    (lt-or-ge i (length xs)))
    (join-of-low xs l h)

cover-low : (regions : ℕ) (s : Shape) (l : List Set) → Low s → All ShortSet l → Low (cover_from regions s l)
unfolding cover_from
cover-low regions s [] w h = w
cover-low regions s (x ∷ l) w h = cover-low regions (join s (shape_of regions x)) l (join-low s (shape_of regions x) w (shape-low regions x h.0)) h.1

abbrev zeros : ℕ → Shape
zeros n = replicate n 0

zero-at : (n r : ℕ) → get_or (zeros n) r 0 ≡ 0
zero-at n r = ⊎_elim
    (λ (h : r < n). get_or-replicate n r 0 0 h)
    (λ h. let l : length (zeros n) ≤ r = omega (arith, length-replicate n zero) in get_or-eq_default (zeros n) 0 l)
    (lt-or-ge r n)

zero-low : (n : ℕ) → Low (zeros n)
zero-low n = record { most = λ r. omega (arith, zero-at n r) }

-- ---- mode 0

module _ (regions : ℕ) (jobs : List Set) (short : All ShortSet jobs) where
  groups-low : All (λ (g : Group). Low g.shape) (groups_of regions jobs)
  unfolding groups_of
  groups-low = from_all (λ (g : Group). Low g.shape) [] (map (shape_of regions) (distinct jobs))
      (all_map (λ (s : Shape). Low s) (shape_of regions) (distinct jobs) (all-imp (λ (s : Set) h. shape-low regions s h) (distinct jobs) (distinct-all ShortSet [] jobs tt short))) (λ g q. q) tt

  living-low : All (λ (g : Living). Low g.group.shape) (merged (groups_of regions jobs)).living
  unfolding merged
  living-low =
      all-imp (λ (g : Living) (m : Made (groups_of regions jobs) g). rw m.shape_is (join-of-low (groups_of regions jobs) g.origins groups-low))
      (run (length (groups_of regions jobs)) (start (groups_of regions jobs))).living (made (length (groups_of regions jobs)) (groups_of regions jobs))

  shared-low : All (λ (f : Final). Low f.shape) (shared regions jobs).finals
  unfolding shared finals_of final_of
  shared-low =
      all_map (λ (f : Final). Low f.shape) (final_of regions (groups_of regions jobs) (distinct jobs)) (sorted is_ahead (merged (groups_of regions jobs)).living)
      (sorted_all is_ahead (λ (g : Living). Low g.group.shape) (merged (groups_of regions jobs)).living living-low)

  own-low : All (λ (f : Final). Low f.shape) (own regions jobs).finals
  unfolding own
  own-low = (cover-low regions (replicate regions 0) jobs (zero-low regions) short, tt)

-- ---- by either

pub packed-low : (mode : ℕ) (s : Said) → All ShortSet s.sets → All (λ (f : Final). Low f.shape) (packed_of mode s).finals
unfolding packed_of
packed-low mode s h = go (which (eqb mode 0))
  where
    go : Which (eqb mode 0) → All (λ (f : Final). Low f.shape) (pick (eqb mode 0) (shared (length s.used) s.sets) (own (length s.used) s.sets)).finals
    go (holds e) = rw e (shared-low (length s.used) s.sets h)
    go (fails e) = rw e (own-low (length s.used) s.sets h)
