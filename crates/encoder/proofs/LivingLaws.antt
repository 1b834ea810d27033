-- The living groups that `optimize` leaves, and the table of their slots that is made from the lent words: the slots found there are those of the
-- rule's living groups, in ascending number; sorted by shape they stand as the living groups do, sorted; they are different, and few. So the words
-- after `optimize` are as the ordering of the living asks. Assumes nothing.
use mathlib.Core.Path.{◌≡◌, refl, sym, ap, ◌∙◌}
use mathlib.Core.Bool.{Bool, false}
use mathlib.Core.Logic.{⊎_elim}
use mathlib.Core.List.Memᴰ
use mathlib.Core.List.{List, [], ◌∷◌, map}
use Prim.Native.Nat.{ℕ, zero, suc, ◌+◌, ◌-◌, ◌*◌, ◌≤◌, ◌<◌}
use native.Mathlib.Omega.{arith}
use lib.ListN.{length, get_or, length-map}
use borrow.Author.Tests.{eq-eqb, ne_eqb}
use Rattle.laws.specs.Every.{All, EachTwo}
use Rattle.laws.specs.Sorting.{insert, sorted}
use Rattle.laws.proofs.Cases.{same_or_not, Which, which}
use Rattle.laws.proofs.Cases.Which.{holds, fails}
use Rattle.laws.proofs.EveryLaws.{all-imp, all-and, all_map, all-get_or, two-get_or}
use Rattle.laws.proofs.Products.{row_fits}
use Rattle.laws.proofs.SortLaws.{insert_all, sorted_all}
use Rattle.laws.proofs.SortMap.{sorted-map, sorted-same, length-sorted}
use Rattle.table.specs.declared.Shapes.{Shapes}
use Rattle.table.specs.LentTable.{shape_in}
use Rattle.slots.specs.declared.tables.MergeTables.{MergeTables}
use Rattle.rule.specs.Model.{Living, merged}
use Rattle.slots.specs.Lent.{group_in, starting}
use Rattle.slots.specs.Lent as lent
use Rattle.waits.specs.LentWaits.{place_of, group_of}
use Rattle.rule.specs.Told.{Among}
use Rattle.merging.specs.LentHeld.{Lives}
use Rattle.merging.specs.LentOptimized.{Optimized}
use Rattle.rule.proofs.Theorems.{Proper, shapes-distinct, run-next, run-count}
use Rattle.rule.proofs.Bridge.{Rising, Numbered, run-numbered, has}
use Rattle.merging.proofs.Unique.{starting-length}
use Rattle.ordering.specs.LentLiving.{no_later, living_from, living_in, Unlike, Slot, LivingFit}
use Rattle.encoder.specs.Packed.{is_ahead}

-- the slot of a living group
abbrev pub slot_of : MergeTables → List ℕ → Living → ℕ
slot_of t w g = get_or w (t.place + g.num) 0 - 1

-- ---- of lists

module _ {A : Type 0} where
  -- each two, where something is known of each
  two-with : (P : A → Type 0) (R S : A → A → Type 0) → ((x y : A) → P x → P y → R x y → S x y)
      → (l : List A) → All P l → EachTwo R l → EachTwo S l
  two-with P R S f [] p r = tt
  two-with P R S f (x ∷ l) p r =
      (all-imp (λ y h. f x y p.0 h.0 h.1) l (all-and P (R x) l p.1 r.0), two-with P R S f l p.1 r.1)

  -- what holds of each two both ways holds of each two of the sorted list
  module _ (R : A → A → Type 0) (back : (x y : A) → R x y → R y x) (le : A → A → Bool) where
    insert-each : (x : A) (l : List A) → All (R x) l → EachTwo R l → EachTwo R (insert le x l)
    unfolding insert
    insert-each x [] h r = (tt, tt)
    insert-each x (y ∷ l) h r = go (insert-each x l h.1 r.1) (which (le x y))
      where
        go : EachTwo R (insert le x l) → Which (le x y) → EachTwo R (insert le x (y ∷ l))
        go rec (holds e) = rw e (h, r)
        go rec (fails e) = rw e (insert_all le (R y) x l (back x y h.0) r.0, rec)

    pub sorted-each : (l : List A) → EachTwo R l → EachTwo R (sorted le l)
    unfolding sorted
    sorted-each [] r = tt
    sorted-each (x ∷ l) r = insert-each x (sorted le l) (sorted_all le (R x) l r.0) (sorted-each l r.1)

pub two-map : {A B : Type 0} (R : B → B → Type 0) (f : A → B) (l : List A) → EachTwo (λ x y. R (f x) (f y)) l → EachTwo R (map f l)
two-map R f [] h = tt
two-map R f (x ∷ l) h = (all_map (R (f x)) f l h.0, two-map R f l h.1)

-- ---- the living numbers from c on, in words

-- l has the groups of the n numbers from c on that live, in ascending number
record Lists (w : List ℕ) (place c n : ℕ) (l : List Living) : Type 0 where
  rising : Rising l
  within : All (λ g. (c ≤ g.num) × (g.num < c + n)) l
  alive : All (λ g. 0 < get_or w (place + g.num) 0) l
  found : (d : ℕ) → c ≤ d → d < c + n → 0 < get_or w (place + d) 0 → Among l d

module _ (w : List ℕ) (place : ℕ) where
  list-dead : (c n : ℕ) (l : List Living) → get_or w (place + c) 0 ≡ 0 → Lists w place c (suc n) l → Lists w place (suc c) n l
  list-dead c n l e h = record {
    rising = h.rising;
    within = all-imp (λ g k. (later g k.0.0 k.1, omega (arith, k.0.1))) l
        (all-and (λ g. (c ≤ g.num) × (g.num < c + suc n)) (λ g. 0 < get_or w (place + g.num) 0) l h.within h.alive);
    alive = h.alive;
    found = λ d p q r. h.found d (omega arith) (omega arith) r;
  }
    where
      later : (g : Living) → c ≤ g.num → 0 < get_or w (place + g.num) 0 → suc c ≤ g.num
      later g p q = ⊎_elim
          (λ (s : c ≡ g.num). let z = ap (λ (x : ℕ). get_or w (place + x) 0) s in absurd (omega arith))
          (λ s. omega arith)
          (same_or_not c g.num)

  list-first : (c n : ℕ) (g : Living) (l : List Living) → (get_or w (place + c) 0 ≡ 0 → ⊥) → Lists w place c (suc n) (g ∷ l) → g.num ≡ c
  list-first c n g l e h =
      let a = h.found c (omega arith) (omega arith) (omega arith) in
      let low = h.within.0.0 in
      ⊎_elim
      (λ (s : a.one ≡ g). sym (ap (λ (x : Living). x.num) s) ∙ a.num-is)
      (λ m. let r = has (λ x. g.num < x.num) l h.rising.0 a.one m in let k = a.num-is in absurd (omega arith))
      (Memᴰ.cases_cons a.here)

  list-more : (c n : ℕ) (g : Living) (l : List Living) → g.num ≡ c → Lists w place c (suc n) (g ∷ l) → Lists w place (suc c) n l
  list-more c n g l e h = record {
    rising = h.rising.1;
    within = all-imp (λ x k. (omega (arith, k.0), omega (arith, k.1.1))) l
        (all-and (λ x. g.num < x.num) (λ x. (c ≤ x.num) × (x.num < c + suc n)) l h.rising.0 h.within.1);
    alive = h.alive.1;
    found = λ d p q r. rest d p (h.found d (omega arith) (omega arith) r);
  }
    where
      rest : (d : ℕ) → suc c ≤ d → Among (g ∷ l) d → Among l d
      rest d p a = ⊎_elim
          (λ (s : a.one ≡ g). let z = ap (λ (x : Living). x.num) s in let k = a.num-is in absurd (omega arith))
          (λ m. record { one = a.one; here = m; num-is = a.num-is })
          (Memᴰ.cases_cons a.here)

  living-is : (c n : ℕ) (l : List Living) → Lists w place c n l → living_from w place c n ≡ map (λ g. get_or w (place + g.num) 0 - 1) l
  unfolding living_from
  living-is c zero [] h = refl
  living-is c zero (g ∷ l) h = let k = h.within.0 in absurd (omega arith)
  living-is c (suc n) [] h = ⊎_elim
      (λ (e : get_or w (place + c) 0 ≡ 0). rw (eq-eqb (get_or w (place + c) 0) 0 e) (living-is (suc c) n [] (list-dead c n [] e h)))
      (λ e. absurd (Memᴰ.not-nil (h.found c (omega arith) (omega arith) (omega arith)).here))
      (same_or_not (get_or w (place + c) 0) 0)
  living-is c (suc n) (g ∷ l) h = ⊎_elim
      (λ (e : get_or w (place + c) 0 ≡ 0). rw (eq-eqb (get_or w (place + c) 0) 0 e) (living-is (suc c) n (g ∷ l) (list-dead c n (g ∷ l) e h)))
      (λ e.
      let f = list-first c n g l e h in
      rw (ne_eqb (get_or w (place + c) 0) 0 e, f, living-is (suc c) n l (list-more c n g l f h)))
      (same_or_not (get_or w (place + c) 0) 0)

-- ---- after `optimize`

module _ {t : MergeTables} {j m b a : ℕ} {w w' : List ℕ} (o : Optimized t j m b a w w') where
  abbrev living : List Living
  living = (merged (starting t w)).living

  next-is : (merged (starting t w)).next ≡ t.groups + j
  unfolding merged
  next-is =
      let n = run-next (length (starting t w)) (starting t w) in
      let g = starting-length t w in
      let k = o.merges-are in
      omega arith

  numbered : Numbered (merged (starting t w))
  unfolding merged
  numbered = run-numbered (length (starting t w)) (starting t w)

  pub living-rising : Rising living
  living-rising = numbered.1

  pub living-below : All (λ g. g.num < t.groups + j) living
  living-below = all-imp (λ g h. omega (arith, next-is, h)) living numbered.0

  pub living-few : length living ≤ t.groups
  unfolding merged
  living-few =
      let n = run-count (length (starting t w)) (starting t w) in
      let g = starting-length t w in
      omega arith

  -- the slots of the living, as the words have them
  pub living-slots : living_in w' t.place (t.groups + j) ≡ map (slot_of t w') living
  living-slots = living-is w' t.place 0 (t.groups + j) living (record {
    rising = living-rising;
    within = all-imp (λ g h. (omega arith, omega arith)) living living-below;
    alive = all-imp (λ g h. h.alive) living o.lives;
    found = λ d p q r. o.others-dead d (omega arith) r;
  })

  pub slots-below : All (λ g. slot_of t w' g < t.groups) living
  slots-below = all-imp (λ g h. let p = h.alive in let q = h.slot in omega arith) living o.lives

  group-apart : EachTwo (λ g h. slot_of t w' g ≡ slot_of t w' h → ⊥) living
  group-apart = two-with
      (λ g. Lives t w' g × (g.num < t.groups + j))
      (λ g h. g.num < h.num)
      (λ g h. slot_of t w' g ≡ slot_of t w' h → ⊥)
      (λ g h p q r e.
      let u = p.0.alive in
      let v = q.0.alive in
      let s : place_of t w' g.num ≡ place_of t w' h.num = omega arith in
      o.apart g.num h.num r q.1 u s)
      living (all-and (Lives t w') (λ g. g.num < t.groups + j) living o.lives living-below) living-rising

  -- the same of the sorted, by place
  pub line-long : length (map (slot_of t w') (sorted is_ahead living)) ≡ length living
  line-long = length-map (sorted is_ahead living) (slot_of t w') ∙ length-sorted is_ahead living

  pub line-below : (p : ℕ) → p < length living → get_or (map (slot_of t w') (sorted is_ahead living)) p 0 < t.groups
  line-below p h = all-get_or (λ x. x < t.groups) (map (slot_of t w') (sorted is_ahead living)) p 0
      (all_map (λ x. x < t.groups) (slot_of t w') (sorted is_ahead living) (sorted_all is_ahead (λ g. slot_of t w' g < t.groups) living slots-below))
      (omega (arith, line-long))

  pub line-apart : (p q : ℕ) → p < q → q < length living
      → get_or (map (slot_of t w') (sorted is_ahead living)) p 0 ≡ get_or (map (slot_of t w') (sorted is_ahead living)) q 0 → ⊥
  line-apart p q l h = two-get_or (λ x y. x ≡ y → ⊥) (map (slot_of t w') (sorted is_ahead living)) p q 0
      (two-map (λ x y. x ≡ y → ⊥) (slot_of t w') (sorted is_ahead living)
      (sorted-each (λ g k. slot_of t w' g ≡ slot_of t w' k → ⊥) (λ g k d e. d (sym e)) is_ahead living group-apart))
      l (omega (arith, line-long))

  -- the table of shapes has the slots of `optimize`
  module _ (s : Shapes) (slots_same : s.slots ≡ t.slots) (regions-same : s.regions ≡ t.regions) where
    shape_same : (x : ℕ) → shape_in s x w' ≡ lent.shape_in t w' x
    unfolding shape_in lent.shape_in
    shape_same x = rw (slots_same, regions-same)

    lives-shape : (g : Living) → Lives t w' g → shape_in s (slot_of t w' g) w' ≡ g.group.shape
    unfolding group_of group_in
    lives-shape g h = shape_same (slot_of t w' g) ∙ ap (λ x. x.shape) h.is

    pub living-shapes : All (λ g. shape_in s (slot_of t w' g) w' ≡ g.group.shape) living
    living-shapes = all-imp lives-shape living o.lives

    pub living-line : sorted (no_later s w') (living_in w' t.place (t.groups + j)) ≡ map (slot_of t w') (sorted is_ahead living)
    unfolding no_later is_ahead
    living-line =
        ap (sorted (no_later s w')) living-slots
        ∙ sorted-map (slot_of t w') (no_later s w') living
        ∙ ap (map (slot_of t w')) (sorted-same (λ g. shape_in s (slot_of t w' g) w' ≡ g.group.shape)
        (λ g h. no_later s w' (slot_of t w' g) (slot_of t w' h)) is_ahead (λ g h p q. rw (p, q)) living living-shapes)

    -- what the ordering of the living asks
    module _ (numbers : t.place + (t.groups + j) ≤ s.order) (before : s.slots + t.groups * t.regions ≤ s.order)
        (room : s.order + t.groups ≤ length w') where
      slot-of : (x : ℕ) → x < t.groups → Slot s w' x
      slot-of x h =
          let r = row_fits t.regions t.groups x h in
          let k = o.sound.shaped.laid.groups-few in
          let e : x * s.regions ≡ x * t.regions = ap (λ (y : ℕ). x * y) regions-same in
          record {
            fits = record { room = omega arith; narrow = rw (shape_same x) (o.sound.shaped.narrow x h) };
            before = omega arith;
            few = omega arith;
          }

      pub living-fit : s.costed ≡ false → Proper t.regions (starting t w) → LivingFit s t.place (t.groups + j) w'
      living-fit plain p = record {
        numbers = numbers;
        plain = plain;
        slots = rw living-slots (all_map (Slot s w') (slot_of t w') living (all-imp (λ g h. slot-of (slot_of t w' g) h) living slots-below));
        unlike = rw living-slots (two-map (Unlike s w') (slot_of t w') living
            (two-with (λ g. shape_in s (slot_of t w' g) w' ≡ g.group.shape) (λ g h. g.group.shape ≡ h.group.shape → ⊥)
            (λ g h. Unlike s w' (slot_of t w' g) (slot_of t w' h)) (λ g h x y d e. d (sym x ∙ e ∙ y)) living living-shapes distinct));
        room = rw living-slots (omega (arith, length-map living (slot_of t w'), living-few));
      }
        where
          distinct : EachTwo (λ g h. g.group.shape ≡ h.group.shape → ⊥) living
          distinct = unfold merged in shapes-distinct t.regions (length (starting t w)) (starting t w) p
